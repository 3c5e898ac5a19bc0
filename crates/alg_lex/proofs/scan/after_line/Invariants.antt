use Rattle.std.proofs.Common.{length}
use Rattle.std.specs.Str.{chars}
use Rattle.alg_lex.specs.Comments.{line_len}
use Rattle.alg_lex.specs.Scanning.{Scans}
use Rattle.alg_lex.proofs.scan.after_line.Given as goal

abbrev pub invariant-loop-c : goal.invariant-loop-c
invariant-loop-c l = Scans (line_len (chars l.text)) l.text l.left (line_len (chars l.left))

abbrev pub decreases-loop-c : goal.decreases-loop-c
decreases-loop-c l = length l.left
