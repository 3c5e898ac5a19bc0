use Rattle.std.proofs.Common.{◌≡◌, drop}
use Rattle.alg_law.specs.Having.{instances_give}
use Rattle.alg_law.specs.Declarations.{declarations_of}
use Rattle.alg_law.proofs.lending.any_grants.Given as goal

abbrev pub invariant-loop-d : goal.invariant-loop-d
invariant-loop-d l = instances_give (declarations_of l.arena (drop l.d-index l.ds)) l.sort l.class ≡ instances_give (declarations_of l.arena l.ds) l.sort l.class
