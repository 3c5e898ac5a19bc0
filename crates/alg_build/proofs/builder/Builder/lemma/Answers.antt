use Rattle.alg_expr.specs.Ids.{trees_at}
use Rattle.alg_proof.specs.LemmaRows.{lemma_row_of}
use Rattle.alg_build.proofs.RowLines.{lemma-leads}
use Rattle.alg_build.proofs.builder.Builder.lemma.Goals as goal

pub row_line-requires-clause-leads : goal.row_line-requires-clause-leads
row_line-requires-clause-leads c = rw (c.known-name.ensures, c.in_ok-letters.ensures, c.in_ok-numbers.ensures) (lemma-leads c.args.self.now (lemma_row_of c.args.row.now) c.args.sort (trees_at c.args.self.now.trees c.args.with.now) c.args.from.now c.requires.named c.requires.fills c.requires.premises)

pub returns-clause-adds : goal.returns-clause-adds
returns-clause-adds c = rw (c.known-name.ensures, c.in_ok-letters.ensures, c.in_ok-numbers.ensures) at c.row_line.ensures.adds
