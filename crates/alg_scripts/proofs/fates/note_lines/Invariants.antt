use Rattle.std.proofs.Common.{◌≡◌, ◌++◌, length, string_bytes}
use Rattle.alg_report.specs.Texts.{notes_text}
use Rattle.alg_scripts.proofs.fates.note_lines.Given as goal

abbrev pub invariant-notes : goal.invariant-notes
invariant-notes l = string_bytes l.out ++ notes_text l.label l.left ≡ string_bytes l.fn.out ++ notes_text l.label l.notes

abbrev pub decreases-notes : goal.decreases-notes
decreases-notes l = length l.left
