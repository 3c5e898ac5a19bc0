use Rattle.std.proofs.Common.{ap}
use Rattle.alg_terms.specs.Tree.{Statement}
use Rattle.alg_build.proofs.Rewritings.{concluded, as_sort}
use Rattle.alg_build.proofs.RowLines.{adds-there, adds-equal}
use Rattle.alg_build.proofs.by_rows.by_lemma.Goals as goal

pub concluded-requires : goal.concluded-requires
concluded-requires c = adds-there _ _ _ _ _ c.in_ok-line.ensures.adds

pub returns-clause-turns : goal.returns-clause-turns
returns-clause-turns c = as_sort _ _ _ _ _ _ (ap (λ (x : Statement). x.sort) c.requires.equation) (concluded _ _ _ _ _ (adds-equal _ _ _ _ _ c.in_ok-line.ensures.adds c.requires.equation) c.concluded.ensures.here c.concluded.ensures.statement c.concluded.ensures.fine)
