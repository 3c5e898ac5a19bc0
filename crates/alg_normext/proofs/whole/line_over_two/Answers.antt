use Rattle.std.proofs.Common.{[], ◌∷◌}
use Rattle.alg_expr.specs.Ids.{tree_of}
use Rattle.alg_normext.proofs.Worths.{first-valued, second-valued, first-part, second-part, two-integral, two-prove, two-ready, two-heads, read_back}
use Rattle.alg_normext.proofs.whole.line_over_two.Goals as goal

pub number-x-requires-clause-valued : goal.number-x-requires-clause-valued
number-x-requires-clause-valued c = first-valued c.args.cx.now c.args.head c.args.value c.args.a.now c.args.b.now c.requires

pub number-x-requires-clause-sort : goal.number-x-requires-clause-sort
number-x-requires-clause-sort c = first-part c.args.cx.now c.args.head c.args.value c.args.a.now c.args.b.now c.requires

pub number-x-requires-clause-integral : goal.number-x-requires-clause-integral
number-x-requires-clause-integral c = two-integral c.args.cx.now c.args.head c.args.value c.args.a.now c.args.b.now c.requires

pub number-y-requires-clause-valued : goal.number-y-requires-clause-valued
number-y-requires-clause-valued c = second-valued c.args.cx.now c.args.head c.args.value c.args.a.now c.args.b.now c.requires

pub number-y-requires-clause-sort : goal.number-y-requires-clause-sort
number-y-requires-clause-sort c = second-part c.args.cx.now c.args.head c.args.value c.args.a.now c.args.b.now c.requires

pub number-y-requires-clause-integral : goal.number-y-requires-clause-integral
number-y-requires-clause-integral c = two-integral c.args.cx.now c.args.head c.args.value c.args.a.now c.args.b.now c.requires

pub line_from-requires : goal.line_from-requires
line_from-requires c = two-ready c.args.cx.now c.args.head c.args.value c.args.a.now c.args.b.now c.requires c.number-x.ensures.whole c.number-y.ensures.whole _ _ (read_back c.number-x.result c.args.a.now.value.numerator c.number-x.ensures.number c.number-x.ensures.whole.small) (read_back c.number-y.result c.args.b.now.value.numerator c.number-y.ensures.number c.number-y.ensures.whole.small)

pub returns-clause-proves : goal.returns-clause-proves
returns-clause-proves c = c.in_ok-line.ensures.proves (tree_of c.args.cx.now.trees c.args.a.now.expr ∷ tree_of c.args.cx.now.trees c.args.b.now.expr ∷ []) (two-prove c.args.cx.now c.args.head c.args.value c.args.a.now c.args.b.now c.requires c.number-x.ensures.whole c.number-y.ensures.whole _ _ (read_back c.number-x.result c.args.a.now.value.numerator c.number-x.ensures.number c.number-x.ensures.whole.small) (read_back c.number-y.result c.args.b.now.value.numerator c.number-y.ensures.number c.number-y.ensures.whole.small)) (two-heads c.args.cx.now c.args.head c.args.value c.args.a.now c.args.b.now c.requires)
