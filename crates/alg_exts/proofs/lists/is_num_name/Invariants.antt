use Rattle.std.proofs.Common.{◌≡◌, drop, map}
use Rattle.alg_exts.specs.Lists.{is_title}
use Rattle.alg_exts.proofs.lists.is_num_name.Given as goal

abbrev pub invariant-loop-ext : goal.invariant-loop-ext
invariant-loop-ext g l = is_title (map (λ x. (goal.NumExt-dyn g (x.vtable, x.value)).title x.value) l.num) l.name ≡ is_title (map (λ x. (goal.NumExt-dyn g (x.vtable, x.value)).title x.value) (drop l.ext-index l.num)) l.name
