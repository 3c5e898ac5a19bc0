use Rattle.alg_lemma.proofs.Named.{add_nodes-named}
use Rattle.alg_ring_rows.proofs.nodes.add_nodes.Goals as goal

pub by_lemma-requires-clause-named : goal.by_lemma-requires-clause-named
by_lemma-requires-clause-named c = add_nodes-named _ c.requires.library
