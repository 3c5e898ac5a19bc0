use Rattle.alg_build.proofs.Lines.{grows-then}
use Rattle.alg_numerals.proofs.LiteralLemmas.{grows-combines, own-line}
use Rattle.alg_numerals.proofs.RelationLemmas.{grows-compares}
use Rattle.alg_fractions.proofs.sizes.ratio_over.Goals as goal

pub div_mul_lit-requires-clause-first_line : goal.div_mul_lit-requires-clause-first_line
div_mul_lit-requires-clause-first_line c =
    own-line _ _ _ _ _ _ _ (grows-combines _ _ (grows-then _ _ _ c.compared_literals.ensures.grows c.literal.ensures.grows) _ _ _ _ _ _ c.in_ok-q.ensures.combines)

pub div_mul_lit-requires-clause-second_line : goal.div_mul_lit-requires-clause-second_line
div_mul_lit-requires-clause-second_line c =
    let q = grows-combines _ _ (grows-then _ _ _ c.compared_literals.ensures.grows c.literal.ensures.grows) _ _ _ _ _ _ c.in_ok-q.ensures.combines in
    let some = grows-compares _ _ c.literal.ensures.grows _ _ _ _ _ c.in_ok-some.ensures.compares in
    rw q.first.tree some.line

pub returns-clause-turns : goal.returns-clause-turns
returns-clause-turns c =
    let q = grows-combines _ _ (grows-then _ _ _ c.compared_literals.ensures.grows c.literal.ensures.grows) _ _ _ _ _ _ c.in_ok-q.ensures.combines in
    rw (← c.in_ok-num.ensures.stands.tree, ← q.first.tree, ← q.second.tree, ← q.total.tree) c.div_mul_lit.ensures.turns
