use Rattle.horner_runs.proofs.Atoms.{can_add_atom, atom_added, atom_exponents}
use Rattle.horner_runs.proofs.with_atom.Goals as goal

pub add-requires : goal.add-requires
add-requires g c = can_add_atom c.args.number c.args.form c.in_ok-atom.atom c.requires c.in_ok-atom.ensures

pub returns-clause-size : goal.returns-clause-size
returns-clause-size g c = atom_added c.args.number c.args.form c.in_ok-atom.atom c.in_ok-sum.sum c.requires c.in_ok-atom.ensures c.in_ok-sum.ensures

pub returns-clause-exponents : goal.returns-clause-exponents
returns-clause-exponents g c = atom_exponents c.args.number c.args.form c.in_ok-atom.atom c.in_ok-sum.sum c.in_ok-atom.ensures c.in_ok-sum.ensures
