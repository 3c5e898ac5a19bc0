use Rattle.std.proofs.Common.{◌∙◌}
use Rattle.alg_group_found.proofs.FoundLemmas.{own-atoms}
use Rattle.alg_group_found.proofs.powers.found_unraised.Goals as goal

pub returns-then-is_past-clause-found : goal.returns-then-is_past-clause-found
returns-then-is_past-clause-found c = record {
  atoms = own-atoms _ _ _ _ c.requires.unraised.atoms c.requires.stands.here c.in_ok-atoms.ensures;
  reach = c.requires.unraised.out ∙ c.if-is_past.true;
}

pub found_atom-requires-clause-atom : goal.found_atom-requires-clause-atom
found_atom-requires-clause-atom c = c.requires.unraised.atom c.if-is_past.false
