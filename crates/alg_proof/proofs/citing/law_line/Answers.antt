use Rattle.alg_expr.specs.Ids.{trees_at}
use Rattle.alg_law.specs.LawRows.{row_of}
use Rattle.alg_proof.proofs.Forward.{law_leads}
use Rattle.alg_proof.proofs.citing.law_line.Goals as goal

pub returns-clause-leads : goal.returns-clause-leads
returns-clause-leads c ts th done h = rw c.known.ensures (law_leads th done (row_of c.args.row.now) c.args.sort (trees_at ts c.args.with) c.args.from h)
