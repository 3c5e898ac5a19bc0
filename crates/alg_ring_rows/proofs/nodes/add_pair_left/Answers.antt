use Rattle.alg_lemma.proofs.Named.{add_pair_left-named}
use Rattle.alg_ring_rows.proofs.nodes.add_pair_left.Goals as goal

pub by_lemma-requires-clause-named : goal.by_lemma-requires-clause-named
by_lemma-requires-clause-named c = add_pair_left-named _ c.requires.library
