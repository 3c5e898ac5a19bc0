use Rattle.std.proofs.Common.{◌≡◌, drop}
use Rattle.alg_exts.specs.Covers.{covered_by}
use Rattle.alg_exts.proofs.asking.value_by.Given as goal

abbrev pub invariant-loop-ext : goal.invariant-loop-ext
invariant-loop-ext g l = record {
  same : l.cx ≡ l.fn.cx;
  index : l.i ≡ l.ext-index;
  covers : covered_by (λ x f. (goal.NumExt-dyn g (x.vtable, x.value)).covered x.value f) l.exts l.on l.sym ≡ covered_by (λ x f. (goal.NumExt-dyn g (x.vtable, x.value)).covered x.value f) (drop l.ext-index l.exts) (drop l.ext-index l.on) l.sym;
}
