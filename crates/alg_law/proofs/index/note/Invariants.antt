use Rattle.std.proofs.Common.{◌≡◌, length, drop}
use Rattle.alg_law.specs.Classes.{all_of}
use Rattle.alg_law.specs.Firsts.{noted}
use Rattle.alg_law.proofs.index.note.Given as goal

abbrev pub invariant-loop-c : goal.invariant-loop-c
invariant-loop-c l =
    record {
      rest : noted l.first l.sort (drop l.c-index l.c-items) l.at ≡ noted l.fn.first l.fn.sort (all_of l.fn.class) l.fn.at;
      len : length l.first ≡ length l.fn.first;
    }
