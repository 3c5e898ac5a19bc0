use Rattle.alg_group_found.proofs.FoundLemmas.{grows-atoms, joined-atoms}
use Rattle.alg_group_found.proofs.ReachLemmas.{product-joined}
use Rattle.alg_group_found.proofs.parts.found_product.Goals as goal

pub atoms_together-requires-clause-rest : goal.atoms_together-requires-clause-rest
atoms_together-requires-clause-rest c = rw c.deref.ensures.value c.requires.right.atoms.here

pub atoms_together-requires-clause-first : goal.atoms_together-requires-clause-first
atoms_together-requires-clause-first c = rw c.deref-2.ensures.value c.requires.left.atoms.here

pub reach_of_product-requires-clause-left : goal.reach_of_product-requires-clause-left
reach_of_product-requires-clause-left c = c.requires.left.reach

pub reach_of_product-requires-clause-right : goal.reach_of_product-requires-clause-right
reach_of_product-requires-clause-right c = c.requires.right.reach

pub returns-clause-found : goal.returns-clause-found
returns-clause-found c = record {
  atoms = grows-atoms _ _ c.reach_of_product.ensures.grows _ _ _ (joined-atoms _ _ _ _ _ (product-joined _ _ _ _) _ _ _ c.requires.left.atoms c.requires.right.atoms c.in_ok-atoms.ensures.here (rw (c.deref.ensures.value, c.deref-2.ensures.value) at c.in_ok-atoms.ensures.trees));
  reach = c.in_ok-reach.ensures.reached;
}
