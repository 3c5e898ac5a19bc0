use Rattle.alg_kernel.proofs.TreeLemmas.{same-by-number}
use Rattle.alg_kernel.proofs.rules.same_tree.Goals as goal

pub returns : goal.returns
returns c = rw (c.number.ensures, c.number-2.ensures) (same-by-number c.args.arena.now c.args.a c.args.b c.len-trees.ensures.distinct c.requires.left c.requires.right)
