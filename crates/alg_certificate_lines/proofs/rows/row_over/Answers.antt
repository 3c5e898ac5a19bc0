use Rattle.std.proofs.Common.{Ok, subst}
use Rattle.alg_expr.specs.Ids.{trees_at}
use Rattle.alg_certificate_lines.specs.Steps.{GivesLine}
use Rattle.alg_certificate_lines.specs.Texts.{row_step}
use Rattle.alg_certificate_lines.proofs.rows.row_over.Goals as goal

pub returns-in-Ok-read_numbers-clause-gives : goal.returns-in-Ok-read_numbers-clause-gives
returns-in-Ok-read_numbers-clause-gives c = λ new is inside n r e.
    subst (λ q. GivesLine new (Ok (row_step c.args.lemma q c.args.sort (trees_at new c.args.ids) is)) (Ok c.row_line.result)) (c.in-Ok.ensures n)
    (subst (λ q. GivesLine new (Ok (row_step c.args.lemma c.in-Ok.name c.args.sort (trees_at new c.args.ids) q)) (Ok c.row_line.result)) (c.in-Ok-read_numbers.ensures is r e) (c.row_line.ensures new inside))

pub returns-in-Ok-read_numbers-clause-here : goal.returns-in-Ok-read_numbers-clause-here
returns-in-Ok-read_numbers-clause-here c = λ new inside. (c.row_line.ensures new inside).0
