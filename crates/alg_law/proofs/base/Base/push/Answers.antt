use Rattle.std.proofs.Common.{subst, sym, List}
use Rattle.alg_law.specs.Declarations.{Declaration}
use Rattle.alg_law.specs.Prefixes.{IsLending}
use Rattle.alg_law.proofs.PrefixLemmas.{IsLending-push}
use Rattle.alg_law.proofs.base.Base.push.Goals as goal

pub invariant_of-self-2 : goal.invariant_of-self-2
invariant_of-self-2 c =
    subst (λ (x : List Declaration). IsLending c.self.inside.shared c.self.inside.prefix c.self.inside.given x) (sym c.in_ok-push.ensures.ok)
    (IsLending-push c.self.inside.shared c.self.inside.local c.args.self.now c.self.inside.prefix c.self.inside.given _ c.self.invariant c.self.view_is c.requires.room c.requires.fits)
