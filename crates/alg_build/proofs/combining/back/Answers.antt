use Rattle.alg_build.proofs.Rewritings.{its_equation, its_left, its_right, added}
use Rattle.alg_build.proofs.combining.back.Goals as goal

pub symm-requires : goal.symm-requires
symm-requires c = its_equation _ _ _ _ _ _ c.requires.turns c.in-Some.is

pub returns-in_ok-line-in-Some-clause-turns : goal.returns-in_ok-line-in-Some-clause-turns
returns-in_ok-line-in-Some-clause-turns c t x y h p = added _ _ t _ _ _ _ y x _ c.in_ok-line-in-Some.ensures.adds (its_right _ _ _ x y _ p c.in-Some.is) (its_left _ _ _ x y _ p c.in-Some.is) h p.right
