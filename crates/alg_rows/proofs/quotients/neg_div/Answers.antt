use Rattle.std.proofs.Common.{refl}
use Rattle.alg_lemma.proofs.Named.{neg_div-named}
use Rattle.alg_build.proofs.RowFacts.{two_fill}
use Rattle.alg_rows.proofs.quotients.neg_div.Goals as goal

pub by_lemma-requires-clause-named : goal.by_lemma-requires-clause-named
by_lemma-requires-clause-named c = neg_div-named _ c.requires.library

pub by_lemma-requires-clause-fills : goal.by_lemma-requires-clause-fills
by_lemma-requires-clause-fills c = two_fill _ _ _ (rw c.requires.field refl) _ _ refl c.requires.a_stands.sorted c.requires.b_stands.sorted c.requires.a_stands.sort c.requires.b_stands.sort

pub by_lemma-requires-clause-premises : goal.by_lemma-requires-clause-premises
by_lemma-requires-clause-premises c = refl
