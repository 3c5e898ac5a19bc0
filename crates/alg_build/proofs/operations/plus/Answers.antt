use Rattle.alg_build.proofs.HeadFacts.{add-heads}
use Rattle.alg_build.proofs.Rewritings.{stands-over}
use Rattle.alg_build.proofs.operations.plus.Goals as goal

pub under_two-requires : goal.under_two-requires
under_two-requires c = stands-over _ _ _ _ _ _ _ _ _ _ _ c.requires.left.turns c.requires.right.turns (add-heads _ _ c.requires.known c.requires.class)

pub returns-clause-turns : goal.returns-clause-turns
returns-clause-turns c x y z w p q = c.in_ok-q.ensures.turns _ _ x y z w p q (add-heads _ _ c.requires.known c.requires.class)
