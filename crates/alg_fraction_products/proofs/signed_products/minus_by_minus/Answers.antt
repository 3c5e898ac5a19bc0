use Rattle.alg_numerals.proofs.LiteralLemmas.{own-line}
use Rattle.alg_fraction_products.proofs.signed_products.minus_by_minus.Goals as goal

pub neg_mul_neg-requires-clause-first_line : goal.neg_mul_neg-requires-clause-first_line
neg_mul_neg-requires-clause-first_line c = own-line _ _ _ _ _ _ _ c.in_ok-t.ensures.combines

pub returns-clause-turns : goal.returns-clause-turns
returns-clause-turns c =
    let q = c.in_ok-t.ensures.combines in
    rw (← q.first.tree, ← q.second.tree, ← q.total.tree) c.neg_mul_neg.ensures.turns
