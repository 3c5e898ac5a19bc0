use Rattle.std.proofs.Common.{◌≡◌, ◌++◌, take}
use Rattle.alg_law.specs.Declarations.{declarations_of}
use Rattle.alg_law.proofs.copies.Copies.push_all.Given as goal

abbrev pub invariant-loop-d : goal.invariant-loop-d
invariant-loop-d l = l.self ≡ l.fn.self ++ declarations_of l.from (take l.d-index l.ds)
