use Rattle.std.proofs.Common.{◌∙◌, sym, arith}
use Rattle.alg_lex.proofs.Scanning.{scan_dot, scan_one, letter_more}
use Rattle.alg_lex.proofs.scan.after_letter.Goals as goal

pub returns-then-is_start : goal.returns-then-is_start
returns-then-is_start c = (
  scan_dot _ _ _ _ _ c.utf8.text c.in_ok-c.ensures.2 c.in_ok-c.ensures.0 c.in_ok-d.ensures.2 c.in_ok-d.ensures.0 c.if-c-eq46.true (sym c.is_start.ensures ∙ c.if-is_start.true),
  omega (arith, c.in_ok-c.ensures.1, c.in_ok-d.ensures.1),
)

pub returns-then-is_continue : goal.returns-then-is_continue
returns-then-is_continue c = (
  scan_one _ _ _ _ _ c.utf8.text c.in_ok-c.ensures.2 c.in_ok-c.ensures.0 (letter_more _ _ _ c.in_ok-c.ensures.0 c.if-c-eq46.false (sym c.is_continue.ensures ∙ c.if-is_continue.true)),
  c.in_ok-c.ensures.1,
)
