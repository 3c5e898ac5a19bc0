use Rattle.std.proofs.Common.{refl}
use Rattle.alg_lemma.proofs.Named.{neg_le_neg-named}
use Rattle.alg_build.proofs.RowFacts.{two_fill, one_statement}
use Rattle.alg_rows.proofs.comparisons.neg_le_neg.Goals as goal

pub by_row-requires-clause-named : goal.by_row-requires-clause-named
by_row-requires-clause-named c = neg_le_neg-named _ c.requires.library

pub by_row-requires-clause-fills : goal.by_row-requires-clause-fills
by_row-requires-clause-fills c = two_fill _ _ _ (rw (c.requires.ring, c.requires.is_strict_ordered_ring) refl) _ _ refl c.requires.a_stands.sorted c.requires.b_stands.sorted c.requires.a_stands.sort c.requires.b_stands.sort

pub by_row-requires-clause-premises : goal.by_row-requires-clause-premises
by_row-requires-clause-premises c = one_statement _ _ _ c.requires.first_line
