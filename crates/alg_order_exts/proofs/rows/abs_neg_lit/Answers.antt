use Rattle.std.proofs.Common.{refl}
use Rattle.alg_lemma.proofs.Named.{abs_neg_lit-named}
use Rattle.alg_build.proofs.RowFacts.{one_fills}
use Rattle.alg_order_exts.proofs.rows.abs_neg_lit.Goals as goal

pub by_lemma-requires-clause-named : goal.by_lemma-requires-clause-named
by_lemma-requires-clause-named c = abs_neg_lit-named _ c.requires.library

pub by_lemma-requires-clause-fills : goal.by_lemma-requires-clause-fills
by_lemma-requires-clause-fills c = one_fills _ _ _ (rw (c.requires.ring, c.requires.is_strict_ordered_ring) refl) _ refl c.requires.a_stands.sorted c.requires.a_stands.sort
