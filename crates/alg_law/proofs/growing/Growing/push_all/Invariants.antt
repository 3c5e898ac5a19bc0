use Rattle.std.proofs.Common.{◌≡◌, ◌++◌, take, drop}
use Rattle.alg_law.specs.Declarations.{declarations_of}
use Rattle.alg_law.specs.Following.{AllMayFollow}
use Rattle.alg_law.proofs.growing.Growing.push_all.Given as goal

abbrev pub invariant-loop-d : goal.invariant-loop-d
invariant-loop-d l =
    record {
      kept : l.self ≡ l.fn.self ++ declarations_of l.from (take l.d-index l.ds);
      rest : AllMayFollow l.self (declarations_of l.from (drop l.d-index l.ds));
    }
