use Rattle.std.proofs.Common.{sym, ◌∙◌}
use Rattle.alg_certificate_lines.proofs.ItemLaws.{numeral_shorter, numerals_on, numerals_all}
use Rattle.alg_certificate_lines.proofs.lists.read_numerals.Goals as goal

pub numerals-smaller : goal.numerals-smaller
numerals-smaller c = numeral_shorter _ _ _ (sym c.in-Some.ensures)

pub numerals-preserved : goal.numerals-preserved
numerals-preserved c = numerals_on _ _ _ _ _ _ c.numerals.invariant (sym c.in-Some.ensures) c.in-Ok.ensures

pub returns : goal.returns
returns c = λ xs f e. c.of.ensures ∙ numerals_all _ _ _ c.numerals.invariant (sym c.in_default.ensures) xs f e
