use Rattle.std.proofs.Common.{sym, ◌∙◌}
use Rattle.alg_certificate_lines.proofs.ItemLaws.{number_shorter, numbers_on, numbers_all}
use Rattle.alg_certificate_lines.proofs.lists.read_numbers.Goals as goal

pub numbers-smaller : goal.numbers-smaller
numbers-smaller c = number_shorter _ _ _ (sym c.in-Some.ensures)

pub numbers-preserved : goal.numbers-preserved
numbers-preserved c = numbers_on _ _ _ _ _ _ c.numbers.invariant (sym c.in-Some.ensures) c.in-Ok.ensures.items

pub returns : goal.returns
returns c = λ xs f e. c.of.ensures ∙ numbers_all _ _ _ c.numbers.invariant (sym c.in_default.ensures) xs f e
