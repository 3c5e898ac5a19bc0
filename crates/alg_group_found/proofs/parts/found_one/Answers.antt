use Rattle.alg_group_found.proofs.FoundLemmas.{one-atoms, one-within}
use Rattle.alg_group_found.proofs.parts.found_one.Goals as goal

pub returns : goal.returns
returns c = record {
  atoms = one-atoms _ _ _ _ c.new.ensures.items;
  reach = one-within _ _ _ _ c.spell_one-spelled.ensures.spells c.spell_one-spelled.ensures.pairs;
}
