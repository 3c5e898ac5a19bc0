use Rattle.std.proofs.Common.{◌∙◌}
use Rattle.alg_expr.specs.Ids.{tree_of}
use Rattle.alg_group_found.proofs.FoundLemmas.{grows-atoms, same-atoms}
use Rattle.alg_group_found.proofs.ReachLemmas.{inverse-inverted}
use Rattle.alg_group_found.proofs.parts.found_inverse.Goals as goal

pub reach_of_inverse-requires-clause-part : goal.reach_of_inverse-requires-clause-part
reach_of_inverse-requires-clause-part c = c.requires.part.reach

pub returns-clause-found : goal.returns-clause-found
returns-clause-found c = record {
  atoms = grows-atoms _ _ c.reach_of_inverse.ensures.grows _ _ _ (same-atoms _ _ _ _ (inverse-inverted c.args.cx.now.theory.declarations c.args.h.sort (tree_of c.args.cx.now.trees c.args.a)).atoms _ _ c.requires.part.atoms (c.in_ok-atoms.ensures ∙ c.deref.ensures.value));
  reach = c.in_ok-reach.ensures.reached;
}
