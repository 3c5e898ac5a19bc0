use Rattle.std.proofs.Common.{refl}
use Rattle.alg_lemma.proofs.Named.{div_one0-named}
use Rattle.alg_build.proofs.RowFacts.{one_fills}
use Rattle.alg_rows.proofs.quotients.div_one0.Goals as goal

pub by_lemma-requires-clause-named : goal.by_lemma-requires-clause-named
by_lemma-requires-clause-named c = div_one0-named _ c.requires.library

pub by_lemma-requires-clause-fills : goal.by_lemma-requires-clause-fills
by_lemma-requires-clause-fills c = one_fills _ _ _ (rw c.requires.field refl) _ refl c.requires.a_stands.sorted c.requires.a_stands.sort

pub by_lemma-requires-clause-premises : goal.by_lemma-requires-clause-premises
by_lemma-requires-clause-premises c = refl
