use Rattle.alg_expr.specs.Ids.{trees_at}
use Rattle.alg_proof.specs.LemmaRows.{lemma_row_of}
use Rattle.alg_proof.proofs.Forward.{lemma_leads}
use Rattle.alg_proof.proofs.citing.lemma_line.Goals as goal

pub returns-clause-leads : goal.returns-clause-leads
returns-clause-leads c ts th done h = rw c.known.ensures (lemma_leads th done (lemma_row_of c.args.row.now) c.args.sort (trees_at ts c.args.with) c.args.from h)
