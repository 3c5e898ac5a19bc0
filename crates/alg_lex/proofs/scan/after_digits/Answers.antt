use Rattle.std.proofs.Common.{ap, sym, ◌∙◌}
use Rattle.alg_lex.specs.Scanning.{digits_len}
use Rattle.alg_lex.proofs.Scanning.{scan_start, scan_step, scan_end, digit_more, digit_none}
use Rattle.alg_lex.proofs.scan.after_digits.Goals as goal

pub split_first_char-requires-text-text : goal.split_first_char-requires-text-text
split_first_char-requires-text-text c κs = c.loop-c.invariant.utf8

pub loop-c-init : goal.loop-c-init
loop-c-init c = scan_start _ _ c.utf8.text

pub loop-c-preserved : goal.loop-c-preserved
loop-c-preserved c =
    scan_step _ _ _ _ _ _ c.in-Some.c c.loop-c.invariant c.in-Some.ensures.2 c.in-Some.ensures.0
    (digit_more _ c.in-Some.c _ c.in-Some.ensures.0 (sym c.is_digit.ensures ∙ c.if-not-is_digit.false))

pub returns-then-not-is_digit : goal.returns-then-not-is_digit
returns-then-not-is_digit c =
    scan_end _ _ _ _ c.loop-c.invariant (digit_none _ c.in-Some.c _ c.in-Some.ensures.0 (sym c.is_digit.ensures ∙ c.if-not-is_digit.true))

pub returns-in_default : goal.returns-in_default
returns-in_default c = scan_end _ _ _ _ c.loop-c.invariant (ap digits_len c.in_default.ensures.0)
