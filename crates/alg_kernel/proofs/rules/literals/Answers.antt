use Rattle.alg_kernel.proofs.TreeLemmas.{grow-two, grow-three, grow-four, literal-equation}
use Rattle.alg_kernel.proofs.rules.literals.Goals as goal

pub returns-in_err-whole-clause-keeps : goal.returns-in_err-whole-clause-keeps
returns-in_err-whole-clause-keeps c = rw c.in_err-whole.ensures.err (grow-two c.in_ok-a.ensures.ok c.in_ok-b.ensures.ok)

pub returns-in_err-value-clause-keeps : goal.returns-in_err-value-clause-keeps
returns-in_err-value-clause-keeps c = rw c.in_err-value.ensures.err (grow-three c.in_ok-a.ensures.ok c.in_ok-b.ensures.ok c.in_ok-whole.ensures.ok)

pub returns-clause-keeps : goal.returns-clause-keeps
returns-clause-keeps c = grow-four c.in_ok-a.ensures.ok c.in_ok-b.ensures.ok c.in_ok-whole.ensures.ok c.in_ok-value.ensures.ok

pub returns-clause-equation : goal.returns-clause-equation
returns-clause-equation c = rw c.equation.ensures (literal-equation c.args.sym c.args.sort c.args.m c.args.n c.args.value c.in_ok-a.ensures.ok c.in_ok-b.ensures.ok c.in_ok-whole.ensures.ok c.in_ok-value.ensures.ok)
