use Rattle.alg_build.proofs.Rewritings.{concluded}
use Rattle.alg_build.proofs.TwoParts.{two_equations, two_fit, two_there, two_prove}
use Rattle.alg_build.proofs.over_parts.over_two.Goals as goal

pub cong-requires-clause-equations : goal.cong-requires-clause-equations
cong-requires-clause-equations c = let (s, x, y, z, w, p, q, h) = c.requires in two_equations _ _ _ x y z w p q

pub cong-requires-clause-fits : goal.cong-requires-clause-fits
cong-requires-clause-fits c = let (s, x, y, z, w, p, q, h) = c.requires in two_fit _ _ _ x y z w p q _ s h

pub concluded-requires : goal.concluded-requires
concluded-requires c = let (s, x, y, z, w, p, q, h) = c.requires in two_there _ _ _ x y z w p q _ s h _ _ c.in_ok-line.ensures.adds

pub returns-clause-turns : goal.returns-clause-turns
returns-clause-turns c s x y z w p q h = concluded _ _ _ _ _ (two_prove _ _ _ x y z w p q _ s h _ _ c.in_ok-line.ensures.adds) c.concluded.ensures.here c.concluded.ensures.statement c.concluded.ensures.fine
