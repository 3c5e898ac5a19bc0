use Rattle.alg_kernel.proofs.TreeLemmas.{grow-two}
use Rattle.alg_kernel.proofs.relations.related.Goals as goal

pub returns-clause-keeps : goal.returns-clause-keeps
returns-clause-keeps c = grow-two c.in_ok-lhs.ensures.ok c.in_ok-rhs.ensures.ok
