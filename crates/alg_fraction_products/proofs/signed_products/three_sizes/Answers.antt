use Rattle.alg_build.proofs.Lines.{grows-then}
use Rattle.alg_build.proofs.Rewritings.{grows-stands}
use Rattle.alg_fraction_products.proofs.signed_products.three_sizes.Goals as goal

pub size-requires-clause-first_small : goal.size-requires-clause-first_small
size-requires-clause-first_small c = c.requires.first_small.top

pub size-requires-clause-second_small : goal.size-requires-clause-second_small
size-requires-clause-second_small c = c.requires.first_small.bottom

pub size-requires-2-clause-first_small : goal.size-requires-2-clause-first_small
size-requires-2-clause-first_small c = c.requires.second_small.top

pub size-requires-2-clause-second_small : goal.size-requires-2-clause-second_small
size-requires-2-clause-second_small c = c.requires.second_small.bottom

pub size-requires-3-clause-first_small : goal.size-requires-3-clause-first_small
size-requires-3-clause-first_small c = c.requires.small.top

pub size-requires-3-clause-second_small : goal.size-requires-3-clause-second_small
size-requires-3-clause-second_small c = c.requires.small.bottom

pub returns-clause-first : goal.returns-clause-first
returns-clause-first c = grows-stands _ _ (grows-then _ _ _ c.size-2.ensures.grows c.size-3.ensures.grows) _ _ _ c.in_ok-first.ensures.stands

pub returns-clause-second : goal.returns-clause-second
returns-clause-second c = grows-stands _ _ c.size-3.ensures.grows _ _ _ c.in_ok-second.ensures.stands
