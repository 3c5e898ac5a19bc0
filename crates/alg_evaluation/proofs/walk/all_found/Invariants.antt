use Rattle.std.proofs.Common.{◌≡◌, length}
use Rattle.alg_build.specs.Book.{Grows}
use Rattle.alg_exts.specs.Covers.{covered_by}
use Rattle.alg_marks.specs.Marks.{AreWanted}
use Rattle.alg_evaluation.specs.Found.{AreFound}
use Rattle.alg_evaluation.proofs.walk.all_found.Given as goal

abbrev pub invariant-loop : goal.invariant-loop
invariant-loop g l = record {
  grows : Grows l.fn.cx l.cx;
  wanted : AreWanted l.cx l.wanted;
  count : length l.found.items ≡ l.counter;
  found : AreFound (covered_by (λ x f. (goal.NumExt-dyn g (x.vtable, x.value)).covered x.value f) l.exts l.on) l.cx l.wanted l.found.items;
}
