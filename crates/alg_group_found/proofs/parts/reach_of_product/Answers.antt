use Rattle.alg_expr.specs.Ids.{tree_of}
use Rattle.alg_group_found.proofs.ReachLemmas.{joined-left_large, joined-letters, joined-out, joined-right_large, product-joined}
use Rattle.alg_group_found.proofs.parts.reach_of_product.Goals as goal

pub product-requires-clause-letters : goal.product-requires-clause-letters
product-requires-clause-letters c = (joined-letters _ _ _ _ (product-joined c.args.cx.now.theory.declarations c.args.h.sort (tree_of c.args.cx.now.trees c.args.a) (tree_of c.args.cx.now.trees c.args.b)) _ (c.in-Some.ensures c.args.cx.now.theory.declarations c.args.cx.now c.args.h (tree_of c.args.cx.now.trees c.args.a) (tree_of c.args.cx.now.trees c.args.b) c.requires.left c.requires.right))

pub returns-in-None-clause-reached : goal.returns-in-None-clause-reached
returns-in-None-clause-reached c = joined-out _ _ _ _ (product-joined c.args.cx.now.theory.declarations c.args.h.sort (tree_of c.args.cx.now.trees c.args.a) (tree_of c.args.cx.now.trees c.args.b)) (c.in-None.ensures c.args.cx.now.theory.declarations c.args.cx.now c.args.h (tree_of c.args.cx.now.trees c.args.a) (tree_of c.args.cx.now.trees c.args.b) c.requires.left c.requires.right)

pub returns-in-Large-clause-reached : goal.returns-in-Large-clause-reached
returns-in-Large-clause-reached c = joined-left_large _ _ _ _ (product-joined c.args.cx.now.theory.declarations c.args.h.sort (tree_of c.args.cx.now.trees c.args.a) (tree_of c.args.cx.now.trees c.args.b)) _ (joined-letters _ _ _ _ (product-joined c.args.cx.now.theory.declarations c.args.h.sort (tree_of c.args.cx.now.trees c.args.a) (tree_of c.args.cx.now.trees c.args.b)) _ (c.in-Some.ensures c.args.cx.now.theory.declarations c.args.cx.now c.args.h (tree_of c.args.cx.now.trees c.args.a) (tree_of c.args.cx.now.trees c.args.b) c.requires.left c.requires.right)) (rw c.in-Large.is at c.requires.left).large

pub returns-in-Large-y-clause-reached : goal.returns-in-Large-y-clause-reached
returns-in-Large-y-clause-reached c = joined-right_large _ _ _ _ (product-joined c.args.cx.now.theory.declarations c.args.h.sort (tree_of c.args.cx.now.trees c.args.a) (tree_of c.args.cx.now.trees c.args.b)) _ (joined-letters _ _ _ _ (product-joined c.args.cx.now.theory.declarations c.args.h.sort (tree_of c.args.cx.now.trees c.args.a) (tree_of c.args.cx.now.trees c.args.b)) _ (c.in-Some.ensures c.args.cx.now.theory.declarations c.args.cx.now c.args.h (tree_of c.args.cx.now.trees c.args.a) (tree_of c.args.cx.now.trees c.args.b) c.requires.left c.requires.right)) (rw c.in-Large-y.is at c.requires.right).large
