use Rattle.alg_normnum.proofs.Ending.{grows-goal}
use Rattle.alg_normnum.proofs.procedure.sides_of.Goals as goal

pub returns-clause-sides : goal.returns-clause-sides
returns-clause-sides g c = record {
  goal = grows-goal _ _ _ c.all_found.ensures.grows c.requires.goal;
  left = c.sides_among.ensures.left _ (rw c.as_slice-values.ensures.value c.in_ok-found.ensures.found);
  right = c.sides_among.ensures.right _ (rw c.as_slice-values.ensures.value c.in_ok-found.ensures.found);
}
