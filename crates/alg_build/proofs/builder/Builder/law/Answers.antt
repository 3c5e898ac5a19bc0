use Rattle.alg_expr.specs.Ids.{trees_at}
use Rattle.alg_law.specs.LawRows.{row_of}
use Rattle.alg_build.proofs.LawNames.{law-name}
use Rattle.alg_build.proofs.RowLines.{law-leads}
use Rattle.alg_build.proofs.builder.Builder.law.Goals as goal

pub known-name-requires : goal.known-name-requires
known-name-requires c = law-name c.args.row.now.name.now (row_of c.args.row.now) c.requires.named

pub row_line-requires-clause-leads : goal.row_line-requires-clause-leads
row_line-requires-clause-leads c = rw (c.known-name.ensures, c.in_ok-letters.ensures, c.in_ok-numbers.ensures) (law-leads c.args.self.now (row_of c.args.row.now) c.args.sort (trees_at c.args.self.now.trees c.args.with.now) c.args.from.now c.requires.named c.requires.fills c.requires.premises)

pub returns-clause-adds : goal.returns-clause-adds
returns-clause-adds c = rw (c.known-name.ensures, c.in_ok-letters.ensures, c.in_ok-numbers.ensures) at c.row_line.ensures.adds
