use Rattle.alg_build.proofs.Leading.{concludes-grows}
use Rattle.alg_fraction_products.proofs.inverses.minus_size_inverse.Goals as goal

pub minus_inverse_by-requires-clause-differs : goal.minus_inverse_by-requires-clause-differs
minus_inverse_by-requires-clause-differs c = concludes-grows _ _ _ _ c.size_inverse_line.ensures.grows c.in_ok-some.ensures.concludes

pub minus_inverse_by-requires-clause-inverts : goal.minus_inverse_by-requires-clause-inverts
minus_inverse_by-requires-clause-inverts c = c.in_ok-line.ensures.proves
