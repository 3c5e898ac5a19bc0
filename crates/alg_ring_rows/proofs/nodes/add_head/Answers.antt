use Rattle.alg_lemma.proofs.Named.{add_head-named}
use Rattle.alg_ring_rows.proofs.nodes.add_head.Goals as goal

pub by_lemma-requires-clause-named : goal.by_lemma-requires-clause-named
by_lemma-requires-clause-named c = add_head-named _ c.requires.library
