use Rattle.std.proofs.Common.{◌≡◌, drop, map}
use Rattle.alg_exts.specs.Lists.{is_title}
use Rattle.alg_exts.proofs.lists.is_sign_name.Given as goal

abbrev pub invariant-loop-ext : goal.invariant-loop-ext
invariant-loop-ext g l = is_title (map (λ x. (goal.SignExt-dyn g (x.vtable, x.value)).heading x.value) l.sign) l.name ≡ is_title (map (λ x. (goal.SignExt-dyn g (x.vtable, x.value)).heading x.value) (drop l.ext-index l.sign)) l.name
