use Rattle.std.proofs.Common.{refl}
use Rattle.alg_lemma.proofs.Named.{neg_zero-named}
use Rattle.alg_build.proofs.RowFacts.{none_fills}
use Rattle.alg_rows.proofs.sums.neg_zero.Goals as goal

pub by_lemma-requires-clause-named : goal.by_lemma-requires-clause-named
by_lemma-requires-clause-named c = neg_zero-named _ c.requires.library

pub by_lemma-requires-clause-fills : goal.by_lemma-requires-clause-fills
by_lemma-requires-clause-fills c = none_fills _ _ _ (rw c.requires.add_group refl) refl c.requires.known

pub by_lemma-requires-clause-premises : goal.by_lemma-requires-clause-premises
by_lemma-requires-clause-premises c = refl
