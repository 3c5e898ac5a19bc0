use Rattle.alg_build.proofs.Lines.{grows-then, grows-proves}
use Rattle.alg_build.proofs.Rewritings.{grows-stands}
use Rattle.alg_build.proofs.Leading.{concludes-grows}
use Rattle.alg_numerals.proofs.LiteralLemmas.{own-stands}
use Rattle.alg_fraction_products.proofs.inverses.minus_inverse_by.Goals as goal

pub neg_inv_lit-requires-clause-a_stands : goal.neg_inv_lit-requires-clause-a_stands
neg_inv_lit-requires-clause-a_stands c =
    let a = grows-stands _ _ c.size-2.ensures.grows _ _ _ c.in_ok-a.ensures.stands in
    let b = c.in_ok-b.ensures.stands in
    own-stands _ _ _ _ a

pub neg_inv_lit-requires-clause-b_stands : goal.neg_inv_lit-requires-clause-b_stands
neg_inv_lit-requires-clause-b_stands c = own-stands _ _ _ _ c.in_ok-b.ensures.stands

pub neg_inv_lit-requires-clause-first_line : goal.neg_inv_lit-requires-clause-first_line
neg_inv_lit-requires-clause-first_line c =
    let a = grows-stands _ _ c.size-2.ensures.grows _ _ _ c.in_ok-a.ensures.stands in
    let b = c.in_ok-b.ensures.stands in
    rw a.tree (concludes-grows _ _ _ _ (grows-then _ _ _ c.size.ensures.grows c.size-2.ensures.grows) c.requires.differs)

pub neg_inv_lit-requires-clause-second_line : goal.neg_inv_lit-requires-clause-second_line
neg_inv_lit-requires-clause-second_line c =
    let a = grows-stands _ _ c.size-2.ensures.grows _ _ _ c.in_ok-a.ensures.stands in
    let b = c.in_ok-b.ensures.stands in
    rw (a.tree, b.tree) (grows-proves _ _ _ _ _ (grows-then _ _ _ c.size.ensures.grows c.size-2.ensures.grows) c.requires.inverts)

pub returns-clause-turns : goal.returns-clause-turns
returns-clause-turns c =
    let a = grows-stands _ _ c.size-2.ensures.grows _ _ _ c.in_ok-a.ensures.stands in
    let b = c.in_ok-b.ensures.stands in
    rw (← a.tree, ← b.tree) c.neg_inv_lit.ensures.turns
