use Rattle.alg_terms.specs.declared.symbols.Sym.TheVariants as sym
use Rattle.alg_expr.proofs.ArenaLaws.{GrowsBy-Extends}
use Rattle.alg_kernel.proofs.TreeLemmas.{grow-two}
use Rattle.alg_kernel.proofs.BridgeLemmas.{negative-made}
use Rattle.alg_kernel.proofs.computations.negative.Goals as goal

pub returns-in_err-whole-clause-keeps : goal.returns-in_err-whole-clause-keeps
returns-in_err-whole-clause-keeps c = rw c.in_err-whole.ensures.err (GrowsBy-Extends _ _ _ _ c.in_ok-literal.ensures.ok)

pub returns-clause-keeps : goal.returns-clause-keeps
returns-clause-keeps c = grow-two c.in_ok-literal.ensures.ok c.in_ok-whole.ensures.ok

pub returns-clause-made : goal.returns-clause-made
returns-clause-made c = negative-made c.args.arena.now c.lit.new.self c.build.new.arena sym.Neg c.args.sort c.args.value c.in_ok-literal.literal c.in_ok-whole.whole c.in_ok-literal.ensures.ok c.in_ok-whole.ensures.ok
