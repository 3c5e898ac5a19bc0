use Rattle.std.proofs.Common.{refl}
use Rattle.alg_lemma.proofs.Named.{pow_next-named}
use Rattle.alg_build.proofs.RowFacts.{fill-abcmn, three_premises}
use Rattle.alg_rows.proofs.powers.pow_next.Goals as goal

pub by_lemma-requires-clause-named : goal.by_lemma-requires-clause-named
by_lemma-requires-clause-named c = pow_next-named _ c.requires.library

pub by_lemma-requires-clause-fills : goal.by_lemma-requires-clause-fills
by_lemma-requires-clause-fills c = fill-abcmn _ _ _ (rw c.requires.monoid refl) _ _ _ _ _ refl c.requires.a_stands.sorted c.requires.b_stands.sorted c.requires.c_stands.sorted c.requires.m_stands.sorted c.requires.n_stands.sorted c.requires.a_stands.sort c.requires.b_stands.sort c.requires.c_stands.sort c.requires.m_stands.sort c.requires.n_stands.sort

pub by_lemma-requires-clause-premises : goal.by_lemma-requires-clause-premises
by_lemma-requires-clause-premises c = three_premises _ _ _ _ _ _ _ _ _ _ c.requires.first_line c.requires.second_line c.requires.third_line
