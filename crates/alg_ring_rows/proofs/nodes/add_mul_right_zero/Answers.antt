use Rattle.alg_lemma.proofs.Named.{add_mul_right_zero-named}
use Rattle.alg_ring_rows.proofs.nodes.add_mul_right_zero.Goals as goal

pub by_lemma-requires-clause-named : goal.by_lemma-requires-clause-named
by_lemma-requires-clause-named c = add_mul_right_zero-named _ c.requires.library
