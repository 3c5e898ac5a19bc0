use Rattle.alg_lemma.proofs.Named.{node_mono_zero-named}
use Rattle.alg_ring_rows.proofs.monomials.node_mono_zero.Goals as goal

pub by_lemma-requires-clause-named : goal.by_lemma-requires-clause-named
by_lemma-requires-clause-named c = node_mono_zero-named _ c.requires.library
