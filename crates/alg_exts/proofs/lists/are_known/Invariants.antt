use Rattle.std.proofs.Common.{◌≡◌, drop, map}
use Rattle.alg_exts.specs.Lists.{are_known}
use Rattle.alg_exts.proofs.lists.are_known.Given as goal

abbrev pub invariant-loop-name : goal.invariant-loop-name
invariant-loop-name g l =
    are_known (map (λ x. x.now) l.names) (map (λ x. (goal.NumExt-dyn g (x.vtable, x.value)).title x.value) l.num) (map (λ x. (goal.SignExt-dyn g (x.vtable, x.value)).heading x.value) l.sign)
    ≡ are_known (map (λ x. x.now) (drop l.name-index l.names)) (map (λ x. (goal.NumExt-dyn g (x.vtable, x.value)).title x.value) l.num) (map (λ x. (goal.SignExt-dyn g (x.vtable, x.value)).heading x.value) l.sign)
