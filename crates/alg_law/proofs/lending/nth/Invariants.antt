use Rattle.std.proofs.Common.{◌≡◌, drop, slice_get}
use Rattle.alg_law.specs.Declarations.{hypotheses, declarations_of}
use Rattle.alg_law.proofs.lending.nth.Given as goal

abbrev pub invariant-loop-d : goal.invariant-loop-d
invariant-loop-d l = slice_get (hypotheses (declarations_of l.arena (drop l.d-index l.list))) l.left ≡ slice_get (hypotheses (declarations_of l.arena l.list)) l.i
