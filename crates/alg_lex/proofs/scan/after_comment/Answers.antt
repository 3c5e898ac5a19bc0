use Rattle.std.proofs.Common.{sym, arith}
use Rattle.alg_lex.proofs.Scanning.{scan_two, scan_one, scan_if_both, scan_if_end, comment_opens, comment_closes, comment_ends, comment_goes_on}
use Rattle.alg_lex.proofs.scan.after_comment.Goals as goal

pub loop-c-preserved-then-are : goal.loop-c-preserved-then-are
loop-c-preserved-then-are c = record {
  passed = scan_if_both _ _ _ 2 _ _ _ c.loop-c.invariant.passed
      (scan_two _ _ _ _ _ c.loop-c.invariant.passed.utf8 c.in-Some.ensures.2 c.in-Some.ensures.0 c.in_ok-d.ensures.2 c.in_ok-d.ensures.0)
      (comment_opens _ _ _ _ _ _ c.in-Some.ensures.0 c.in_ok-d.ensures.0 (sym c.if-are.ensures));
  room = omega (arith, c.loop-c.invariant.room, c.in-Some.ensures.1, c.in_ok-d.ensures.1);
}

pub returns-then-depth-le1 : goal.returns-then-depth-le1
returns-then-depth-le1 c =
    scan_if_end _ _ 2 _ _ _ c.loop-c.invariant.passed
    (scan_two _ _ _ _ _ c.loop-c.invariant.passed.utf8 c.in-Some.ensures.2 c.in-Some.ensures.0 c.in_ok-d.ensures.2 c.in_ok-d.ensures.0)
    (comment_ends _ _ _ _ _ _ c.in-Some.ensures.0 c.in_ok-d.ensures.0 (sym c.if-are.ensures) (sym c.if-are-2.ensures) c.if-depth-le1.true)

pub loop-c-preserved-then-are-2 : goal.loop-c-preserved-then-are-2
loop-c-preserved-then-are-2 c = record {
  passed = scan_if_both _ _ _ 2 _ _ _ c.loop-c.invariant.passed
      (scan_two _ _ _ _ _ c.loop-c.invariant.passed.utf8 c.in-Some.ensures.2 c.in-Some.ensures.0 c.in_ok-d.ensures.2 c.in_ok-d.ensures.0)
      (comment_closes _ _ _ _ _ _ c.in-Some.ensures.0 c.in_ok-d.ensures.0 (sym c.if-are.ensures) (sym c.if-are-2.ensures) c.if-depth-le1.false);
  room = omega (arith, c.loop-c.invariant.room, c.in-Some.ensures.1, c.in_ok-d.ensures.1);
}

pub loop-c-preserved : goal.loop-c-preserved
loop-c-preserved c = record {
  passed = scan_if_both _ _ _ 1 _ _ _ c.loop-c.invariant.passed
      (scan_one _ _ _ _ _ c.loop-c.invariant.passed.utf8 c.in-Some.ensures.2 c.in-Some.ensures.0 (omega arith))
      (comment_goes_on _ _ _ _ _ _ c.in-Some.ensures.0 c.in_ok-d.ensures.0 (sym c.if-are.ensures) (sym c.if-are-2.ensures));
  room = omega (arith, c.loop-c.invariant.room, c.in-Some.ensures.1);
}
