use Rattle.alg_group_found.proofs.FoundLemmas.{atom-within, grows-atoms, own-atoms}
use Rattle.alg_group_found.proofs.parts.found_atom.Goals as goal

pub returns-clause-found : goal.returns-clause-found
returns-clause-found c = record {
  atoms = grows-atoms _ _ c.spell_atom.ensures.grows _ _ _ (own-atoms _ _ _ _ c.requires.atom.atoms c.requires.stands.here c.in_ok-atoms.ensures);
  reach = atom-within _ _ _ _ _ c.requires.atom c.in_ok-spelled.ensures.spells c.in_ok-spelled.ensures.pairs;
}
