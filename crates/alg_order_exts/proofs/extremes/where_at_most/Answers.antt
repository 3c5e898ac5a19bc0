use Rattle.alg_numerals.proofs.LiteralLemmas.{own-stands}
use Rattle.alg_numerals.proofs.RelationLemmas.{own-relation}
use Rattle.alg_order_exts.proofs.extremes.where_at_most.Goals as goal

pub min_eq_left-requires-clause-a_stands : goal.min_eq_left-requires-clause-a_stands
min_eq_left-requires-clause-a_stands c = own-stands _ _ _ _ c.in_ok-q.ensures.compares.first

pub min_eq_left-requires-clause-b_stands : goal.min_eq_left-requires-clause-b_stands
min_eq_left-requires-clause-b_stands c = own-stands _ _ _ _ c.in_ok-q.ensures.compares.second

pub min_eq_left-requires-clause-line : goal.min_eq_left-requires-clause-line
min_eq_left-requires-clause-line c = own-relation _ _ _ _ _ _ c.in_ok-q.ensures.compares

pub max_eq_right-requires-clause-a_stands : goal.max_eq_right-requires-clause-a_stands
max_eq_right-requires-clause-a_stands c = own-stands _ _ _ _ c.in_ok-q.ensures.compares.first

pub max_eq_right-requires-clause-b_stands : goal.max_eq_right-requires-clause-b_stands
max_eq_right-requires-clause-b_stands c = own-stands _ _ _ _ c.in_ok-q.ensures.compares.second

pub max_eq_right-requires-clause-line : goal.max_eq_right-requires-clause-line
max_eq_right-requires-clause-line c = own-relation _ _ _ _ _ _ c.in_ok-q.ensures.compares
