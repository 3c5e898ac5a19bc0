use Rattle.std.proofs.Common.{refl}
use Rattle.alg_lemma.proofs.Named.{neg_neg-named}
use Rattle.alg_build.proofs.RowFacts.{one_fills}
use Rattle.alg_rows.proofs.sums.neg_neg.Goals as goal

pub by_lemma-requires-clause-named : goal.by_lemma-requires-clause-named
by_lemma-requires-clause-named c = neg_neg-named _ c.requires.library

pub by_lemma-requires-clause-fills : goal.by_lemma-requires-clause-fills
by_lemma-requires-clause-fills c = one_fills _ _ _ (rw c.requires.add_group refl) _ refl c.requires.a_stands.sorted c.requires.a_stands.sort

pub by_lemma-requires-clause-premises : goal.by_lemma-requires-clause-premises
by_lemma-requires-clause-premises c = refl
