use Rattle.std.proofs.Common.{[], ◌∷◌}
use Rattle.alg_expr.specs.Ids.{tree_of}
use Rattle.alg_normext.proofs.Worths.{one-valued, one-part, one-integral, one-proves, one-ready, one-heads, read_back}
use Rattle.alg_normext.proofs.whole.line_over_one.Goals as goal

pub number-x-requires-clause-valued : goal.number-x-requires-clause-valued
number-x-requires-clause-valued c = one-valued c.args.cx.now c.args.head c.args.value c.args.a.now c.requires

pub number-x-requires-clause-sort : goal.number-x-requires-clause-sort
number-x-requires-clause-sort c = one-part c.args.cx.now c.args.head c.args.value c.args.a.now c.requires

pub number-x-requires-clause-integral : goal.number-x-requires-clause-integral
number-x-requires-clause-integral c = one-integral c.args.cx.now c.args.head c.args.value c.args.a.now c.requires

pub line_from-requires : goal.line_from-requires
line_from-requires c = one-ready c.args.cx.now c.args.head c.args.value c.args.a.now c.requires c.number-x.ensures.whole _ (read_back c.number-x.result c.args.a.now.value.numerator c.number-x.ensures.number c.number-x.ensures.whole.small)

pub returns-clause-proves : goal.returns-clause-proves
returns-clause-proves c = c.in_ok-line.ensures.proves (tree_of c.args.cx.now.trees c.args.a.now.expr ∷ []) (one-proves c.args.cx.now c.args.head c.args.value c.args.a.now c.requires c.number-x.ensures.whole _ (read_back c.number-x.result c.args.a.now.value.numerator c.number-x.ensures.number c.number-x.ensures.whole.small)) (one-heads c.args.cx.now c.args.head c.args.value c.args.a.now c.requires)
