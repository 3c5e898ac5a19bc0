use Rattle.std.proofs.Common.{length}
use Rattle.std.specs.Str.{chars}
use Rattle.alg_lex.specs.Scanning.{Scans, tail_len}
use Rattle.alg_lex.proofs.scan.after_name.Given as goal

abbrev pub invariant-loop-rest : goal.invariant-loop-rest
invariant-loop-rest l = Scans (tail_len (chars l.text)) l.text l.left (tail_len (chars l.left))

abbrev pub decreases-loop-rest : goal.decreases-loop-rest
decreases-loop-rest l = length l.left
