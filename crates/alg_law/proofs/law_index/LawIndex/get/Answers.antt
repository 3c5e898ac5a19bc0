use Rattle.alg_law.proofs.RowNameLaws.{row_named-exact}
use Rattle.alg_law.proofs.law_index.LawIndex.get.Goals as goal

pub returns-clause-exact : goal.returns-clause-exact
returns-clause-exact c = row_named-exact _ _ c.first.ensures
