use Rattle.std.proofs.Common.{◌≡◌, take, map}
use Rattle.alg_exts.specs.Lists.{on_under}
use Rattle.alg_exts.proofs.lists.sign_on.Given as goal

abbrev pub invariant-loop-ext : goal.invariant-loop-ext
invariant-loop-ext g l = l.on.items ≡ on_under (map (λ x. x.now) l.names) (map (λ x. (goal.SignExt-dyn g (x.vtable, x.value)).heading x.value) (take l.ext-index l.sign))
