use Rattle.alg_lemma.proofs.Named.{mul_right_comm-named}
use Rattle.alg_fraction_sums.proofs.rearranging.mul_right_comm.Goals as goal

pub by_lemma-requires-clause-named : goal.by_lemma-requires-clause-named
by_lemma-requires-clause-named c = mul_right_comm-named _ c.requires.library
