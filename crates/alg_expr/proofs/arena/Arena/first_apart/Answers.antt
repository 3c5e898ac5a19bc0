use Rattle.std.proofs.Common.{arith, Less}
use Rattle.alg_expr.proofs.FirstApart.{order-skip, AreApart-at, order-ends_left, order-ends_right}
use Rattle.alg_expr.proofs.arena.Arena.first_apart.Goals as goal

pub returns-then-xs-i : goal.returns-then-xs-i
returns-then-xs-i c =
    AreApart-at c.args.self.now c.args.xs.now c.args.ys.now c.loop-i.i (record { index = 0 }) Less c.requires.left c.requires.right c.requires.distinct c.loop-i-test.true c.if-i-ys.true c.if-xs-i.true c.loop-i.invariant.order

pub loop-i-preserved : goal.loop-i-preserved
loop-i-preserved c =
    record {
      left = omega (arith, c.loop-i-test.true);
      right = omega (arith, c.if-i-ys.true);
      order =
          order-skip c.args.self.now c.args.xs.now c.args.ys.now c.loop-i.i (record { index = 0 }) _ c.loop-i-test.true c.if-i-ys.true
          (λ j. record { index = c.if-xs-i.false j }) c.loop-i.invariant.order;
    }

pub returns-then-i-xs : goal.returns-then-i-xs
returns-then-i-xs c = order-ends_right c.args.self.now c.args.xs.now c.args.ys.now c.loop-i.i (record { index = 0 }) _ c.if-i-xs.true (omega (arith, c.loop-i-test.branch)) c.loop-i.invariant.order

pub returns-then-i-ys-2 : goal.returns-then-i-ys-2
returns-then-i-ys-2 c = order-ends_left c.args.self.now c.args.xs.now c.args.ys.now c.loop-i.i (record { index = 0 }) _ c.if-i-xs.false c.if-i-ys-2.true c.loop-i.invariant.order
