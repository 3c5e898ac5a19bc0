use Rattle.std.proofs.Common.{refl}
use Rattle.alg_lemma.proofs.Named.{one_inv0-named}
use Rattle.alg_build.proofs.RowFacts.{none_fills}
use Rattle.alg_rows.proofs.inverses.one_inv0.Goals as goal

pub by_lemma-requires-clause-named : goal.by_lemma-requires-clause-named
by_lemma-requires-clause-named c = one_inv0-named _ c.requires.library

pub by_lemma-requires-clause-fills : goal.by_lemma-requires-clause-fills
by_lemma-requires-clause-fills c = none_fills _ _ _ (rw c.requires.field refl) refl c.requires.known

pub by_lemma-requires-clause-premises : goal.by_lemma-requires-clause-premises
by_lemma-requires-clause-premises c = refl
