use Rattle.std.proofs.Common.{◌∙◌}
use Rattle.alg_build.proofs.AtomLemmas.{atom_number, atom_book}
use Rattle.alg_build.proofs.builder.Builder.atom.Goals as goal
use Rattle.alg_build.proofs.builder.Builder.atom.Goals.{in-Ok, in-Err}

pub returns-clause-number : goal.returns-clause-number
returns-clause-number c =
    elim c.match-insert_full.branch [
      | in-Ok w ↦ rw w.result-is (w.in-Ok.ensures.index ∙ atom_number _ c.args.e c.args.self.now c.self.view_is c.len-trees.ensures.distinct c.requires c.self.invariant)
      | in-Err w ↦ rw w.result-is tt
    ]

pub returns-clause-atoms : goal.returns-clause-atoms
returns-clause-atoms c =
    elim c.match-insert_full.branch [
      | in-Ok w ↦ rw (w.result-is, w.in-Ok.ensures.keys) (atom_book _ c.args.e c.args.self.now c.self.view_is c.len-trees.ensures.distinct c.requires c.self.invariant)
      | in-Err w ↦ rw w.result-is tt
    ]
