use Rattle.std.proofs.Common.{sym}
use Rattle.alg_lex.proofs.Pieces.{cuts_blank, cuts_line, cuts_comment, cuts_unclosed, cuts_token}
use Rattle.alg_lex.proofs.scan.scan.Goals as goal

pub returns-then-is_blank : goal.returns-then-is_blank
returns-then-is_blank c = cuts_blank c.args.text.now c.in-Some.rest.now c.in-Some.c c.in-Some.ensures.0 c.in-Some.ensures.2 (sym c.if-is_blank.ensures)

pub returns-then-begins : goal.returns-then-begins
returns-then-begins c = cuts_line c.args.text.now c.after_line.result.now c.in-Some.c _ c.in-Some.ensures.0 (sym c.if-is_blank.ensures) (sym c.if-begins.ensures) c.after_line.ensures

pub returns-in-Some-after_comment : goal.returns-in-Some-after_comment
returns-in-Some-after_comment c = cuts_comment c.args.text.now c.in-Some-after_comment.rest.now c.in-Some.c _ c.in-Some.ensures.0 (sym c.if-is_blank.ensures) (sym c.if-begins.ensures) (sym c.if-begins-2.ensures) c.in-Some-after_comment.ensures

pub returns-in-None : goal.returns-in-None
returns-in-None c = cuts_unclosed c.args.text.now c.in-Some.c _ c.utf8.text c.in-Some.ensures.0 (sym c.if-is_blank.ensures) (sym c.if-begins.ensures) (sym c.if-begins-2.ensures) c.in-None.ensures

pub returns : goal.returns
returns c = cuts_token c.args.text.now c.in-Some.rest.now _ c.in-Some.c _ c.in-Some.ensures.0 c.in-Some.ensures.2 (sym c.if-is_blank.ensures) (sym c.if-begins.ensures) (sym c.if-begins-2.ensures) c.scan_token.ensures
