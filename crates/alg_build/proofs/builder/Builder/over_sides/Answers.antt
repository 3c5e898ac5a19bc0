use Rattle.alg_build.proofs.CongruenceLemmas.{sides_same, some_head, its_head, sides_equation}
use Rattle.alg_build.proofs.builder.Builder.over_sides.Goals as goal

pub sort_over-sort-requires-clause-here : goal.sort_over-sort-requires-clause-here
sort_over-sort-requires-clause-here c = (sides_same _ _ _ _ _ _ c.in_ok-sides.ensures c.as_slice-lefts.ensures c.as_slice-rights.ensures).lefts_in

pub sort_over-sort-requires-clause-fits : goal.sort_over-sort-requires-clause-fits
sort_over-sort-requires-clause-fits c =
    some_head _ _ _ _ (sides_same _ _ _ _ _ _ c.in_ok-sides.ensures c.as_slice-lefts.ensures c.as_slice-rights.ensures) c.args.sym c.requires.fits

pub over_both-requires-clause-left_in : goal.over_both-requires-clause-left_in
over_both-requires-clause-left_in c = (sides_same _ _ _ _ _ _ c.in_ok-sides.ensures c.as_slice-lefts.ensures c.as_slice-rights.ensures).lefts_in

pub over_both-requires-clause-right_in : goal.over_both-requires-clause-right_in
over_both-requires-clause-right_in c = (sides_same _ _ _ _ _ _ c.in_ok-sides.ensures c.as_slice-lefts.ensures c.as_slice-rights.ensures).rights_in

pub over_both-requires-clause-fits : goal.over_both-requires-clause-fits
over_both-requires-clause-fits c =
    its_head _ _ _ _ (sides_same _ _ _ _ _ _ c.in_ok-sides.ensures c.as_slice-lefts.ensures c.as_slice-rights.ensures) c.args.sym c.sort_over-sort.result c.sort_over-sort.ensures c.requires.fits

pub over_both-requires-clause-even : goal.over_both-requires-clause-even
over_both-requires-clause-even c = (sides_same _ _ _ _ _ _ c.in_ok-sides.ensures c.as_slice-lefts.ensures c.as_slice-rights.ensures).even

pub returns-clause-statement : goal.returns-clause-statement
returns-clause-statement c =
    sides_equation c.args.self.now c.args.parts.now _ _ (sides_same _ _ _ _ _ _ c.in_ok-sides.ensures c.as_slice-lefts.ensures c.as_slice-rights.ensures) c.args.sym c.sort_over-sort.result c.sort_over-sort.ensures
    c.over_both.new.self c.over_both.result c.over_both.ensures.statement
