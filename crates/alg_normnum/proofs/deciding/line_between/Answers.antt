use Rattle.alg_normnum.proofs.Relations.{is_divisor, not_dvd, order_allowed, order_class, order_ranged}
use Rattle.alg_normnum.proofs.deciding.line_between.Goals as goal

pub divided-requires-clause-holds : goal.divided-requires-clause-holds
divided-requires-clause-holds c = is_divisor c.args.cx.now.theory.declarations _ _ _ _ c.requires.holds (c.is_divisibility.ensures.0 c.if-is_divisibility.true)

pub compared-requires-clause-class : goal.compared-requires-clause-class
compared-requires-clause-class c = order_class c.args.cx.now.theory.declarations _ _ _ _ c.requires.holds (not_dvd _ _ c.if-is_divisibility.false c.is_divisibility.ensures) c.requires.other c.requires.different

pub compared-requires-clause-holds : goal.compared-requires-clause-holds
compared-requires-clause-holds c = order_allowed c.args.cx.now.theory.declarations _ _ _ _ c.requires.holds (not_dvd _ _ c.if-is_divisibility.false c.is_divisibility.ensures) c.requires.other c.requires.different

pub compared-requires-clause-small : goal.compared-requires-clause-small
compared-requires-clause-small c = order_ranged c.args.cx.now.theory.declarations _ _ _ _ c.requires.holds (not_dvd _ _ c.if-is_divisibility.false c.is_divisibility.ensures) c.requires.other c.requires.different
