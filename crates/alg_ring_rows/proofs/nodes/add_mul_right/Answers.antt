use Rattle.alg_lemma.proofs.Named.{add_mul_right-named}
use Rattle.alg_ring_rows.proofs.nodes.add_mul_right.Goals as goal

pub by_lemma-requires-clause-named : goal.by_lemma-requires-clause-named
by_lemma-requires-clause-named c = add_mul_right-named _ c.requires.library
