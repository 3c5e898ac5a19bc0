use Rattle.std.proofs.Common.{◌∙◌, sym}
use Rattle.alg_build.proofs.Rewritings.{its_equation, its_left, its_right, added, target}
use Rattle.alg_build.proofs.combining.then.Goals as goal

pub trans-requires-clause-first : goal.trans-requires-clause-first
trans-requires-clause-first c = its_equation _ _ _ _ _ _ c.requires.first c.in-Some.is

pub trans-requires-clause-second : goal.trans-requires-clause-second
trans-requires-clause-second c = its_equation _ _ _ _ _ _ c.requires.second c.in-Some-line.is

pub trans-requires-clause-middle : goal.trans-requires-clause-middle
trans-requires-clause-middle c = its_right _ _ _ _ _ _ c.requires.first c.in-Some.is ∙ sym (its_left _ _ _ _ _ _ c.requires.second c.in-Some-line.is)

pub returns-in_ok-line-in-Some-line-clause-turns :
    goal.returns-in_ok-line-in-Some-line-clause-turns
returns-in_ok-line-in-Some-line-clause-turns c t x y z p q = added _ _ t _ _ _ _ x z _ c.in_ok-line-in-Some-line.ensures.adds (its_left _ _ _ x y _ p c.in-Some.is) (its_right _ _ _ y z _ q c.in-Some-line.is) (target _ _ _ y z q) p.left
