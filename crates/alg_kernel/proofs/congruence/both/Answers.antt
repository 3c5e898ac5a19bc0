use Rattle.alg_expr.proofs.ArenaLaws.{GrowsBy-Extends}
use Rattle.alg_kernel.proofs.TreeLemmas.{grow-two, both-equation, sorts_at-extends}
use Rattle.alg_kernel.proofs.congruence.both.Goals as goal

pub build-requires-2-clause-sorts : goal.build-requires-2-clause-sorts
build-requires-2-clause-sorts c =
    rw (sorts_at-extends c.args.arena.now c.build.new.arena c.args.rights.now (GrowsBy-Extends _ _ _ _ c.in_ok-lhs.ensures.ok) c.requires.right_in) c.requires.right_sorts

pub returns-clause-keeps : goal.returns-clause-keeps
returns-clause-keeps c = grow-two c.in_ok-lhs.ensures.ok c.in_ok-rhs.ensures.ok

pub returns-clause-equation : goal.returns-clause-equation
returns-clause-equation c =
    rw c.equation.ensures
    (both-equation c.args.sym c.args.sort c.args.lefts.now c.args.rights.now c.requires.right_in c.in_ok-lhs.ensures.ok c.in_ok-rhs.ensures.ok)
