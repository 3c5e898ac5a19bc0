use Rattle.alg_expr.specs.Ids.{trees_at}
use Rattle.alg_law.specs.LawRows.{row_of}
use Rattle.alg_proof.specs.Citing.{conclusion_of}
use Rattle.alg_proof.specs.Lines.{step_of}
use Rattle.alg_build.proofs.Growing.{sound-extends, keeps-of, leads_sorted, leads_filled}
use Rattle.alg_build.proofs.builder.Builder.row_judged.Goals as goal

pub row_conclusion-requires-clause-sorted : goal.row_conclusion-requires-clause-sorted
row_conclusion-requires-clause-sorted c = leads_sorted _ c.args.self.now (step_of c.args.self.now.trees c.args._line.now) (λ ts. conclusion_of (row_of c.args.row.now) c.args.sort (trees_at ts c.args.with.now)) c.self.view_is c.self.invariant c.requires.leads

pub invariant_of-self : goal.invariant_of-self
invariant_of-self c = sound-extends _ _ c.row_conclusion.ensures.keeps c.self.invariant

pub returns-clause-concludes : goal.returns-clause-concludes
returns-clause-concludes c = leads_filled _ c.args.self.now (step_of c.args.self.now.trees c.args._line.now) (λ ts. conclusion_of (row_of c.args.row.now) c.args.sort (trees_at ts c.args.with.now)) _ c.row_conclusion.result c.self.view_is c.requires.leads c.row_conclusion.ensures.concludes

pub returns-clause-keeps : goal.returns-clause-keeps
returns-clause-keeps c = keeps-of _ _ c.args.self.now c.self.view_is c.row_conclusion.ensures.keeps c.self.invariant
