use Rattle.std.proofs.Common.{◌≡◌, drop}
use Rattle.alg_law.specs.Classes.{all_of}
use Rattle.alg_names.specs.Granting.{forgotten}
use Rattle.alg_names.proofs.grants.forget.Given as goal

abbrev pub invariant-loop-c : goal.invariant-loop-c
invariant-loop-c l = forgotten l.first l.sort (drop l.c-index l.c-items) l.at ≡ forgotten l.fn.first l.fn.sort (all_of l.fn.class) l.fn.at
