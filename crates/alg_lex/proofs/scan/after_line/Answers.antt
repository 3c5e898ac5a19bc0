use Rattle.std.proofs.Common.{ap, ◌∙◌}
use Rattle.alg_lex.specs.Comments.{line_len}
use Rattle.alg_lex.proofs.Scanning.{scan_start, scan_step, scan_end}
use Rattle.std.proofs.lemmas.Bool.{cond-true, cond-false, eq-eqb, ne_eqb}
use Rattle.alg_lex.proofs.scan.after_line.Goals as goal

pub split_first_char-requires-text-text : goal.split_first_char-requires-text-text
split_first_char-requires-text-text c κs = c.loop-c.invariant.utf8

pub loop-c-init : goal.loop-c-init
loop-c-init c = scan_start _ _ c.utf8.text

pub loop-c-preserved : goal.loop-c-preserved
loop-c-preserved c =
    scan_step _ _ _ _ _ _ c.in-Some.c c.loop-c.invariant c.in-Some.ensures.2 c.in-Some.ensures.0
    (ap line_len c.in-Some.ensures.0 ∙ cond-false _ _ _ (ne_eqb _ _ c.if-c-eq10.false))

pub returns-then-c-eq10 : goal.returns-then-c-eq10
returns-then-c-eq10 c =
    scan_end _ _ _ _ c.loop-c.invariant
    (ap line_len c.in-Some.ensures.0 ∙ cond-true _ _ _ (eq-eqb _ _ c.if-c-eq10.true))

pub returns-in_default : goal.returns-in_default
returns-in_default c = scan_end _ _ _ _ c.loop-c.invariant (ap line_len c.in_default.ensures.0)
