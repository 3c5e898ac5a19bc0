use Rattle.alg_fraction_products.proofs.HavingLemmas.{either-quotients}
use Rattle.alg_fraction_products.proofs.signed_products.product_of_fractions.Goals as goal

pub product_of_wholes-requires-clause-first : goal.product_of_wholes-requires-clause-first
product_of_wholes-requires-clause-first c = c.requires.first.whole

pub product_of_wholes-requires-clause-second : goal.product_of_wholes-requires-clause-second
product_of_wholes-requires-clause-second c = c.requires.second.whole

pub product_of_wholes-requires-clause-first_whole : goal.product_of_wholes-requires-clause-first_whole
product_of_wholes-requires-clause-first_whole c = (c.are_whole.ensures.yes c.if-are_whole.true).0

pub product_of_wholes-requires-clause-second_whole : goal.product_of_wholes-requires-clause-second_whole
product_of_wholes-requires-clause-second_whole c = (c.are_whole.ensures.yes c.if-are_whole.true).1

pub product_by_zero-requires-clause-quotients : goal.product_by_zero-requires-clause-quotients
product_by_zero-requires-clause-quotients c = either-quotients _ _ _ _ c.requires.first c.requires.second (c.are_whole.ensures.no c.if-are_whole.false)
