use Rattle.horner_runs.proofs.Fractions.{can_add_parts, parts_size, parts_exponents}
use Rattle.horner_runs.proofs.parts.Goals as goal

pub add-requires : goal.add-requires
add-requires c = can_add_parts c.in_ok-x.x c.in_ok-y.y c.in_ok-x.ensures.size c.in_ok-y.ensures.size

pub returns-clause-size : goal.returns-clause-size
returns-clause-size c = parts_size c.in_ok-x.x c.in_ok-y.y c.in_ok-sum.sum c.in_ok-x.ensures.size c.in_ok-y.ensures.size c.in_ok-sum.ensures

pub returns-clause-exponents : goal.returns-clause-exponents
returns-clause-exponents c = parts_exponents c.in_ok-x.x c.in_ok-y.y c.in_ok-sum.sum c.in_ok-x.ensures.exponents c.in_ok-y.ensures.exponents c.in_ok-sum.ensures
