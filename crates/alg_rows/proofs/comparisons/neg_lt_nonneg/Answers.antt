use Rattle.std.proofs.Common.{refl}
use Rattle.alg_lemma.proofs.Named.{neg_lt_nonneg-named}
use Rattle.alg_build.proofs.RowFacts.{two_fill, two_statements}
use Rattle.alg_rows.proofs.comparisons.neg_lt_nonneg.Goals as goal

pub by_row-requires-clause-named : goal.by_row-requires-clause-named
by_row-requires-clause-named c = neg_lt_nonneg-named _ c.requires.library

pub by_row-requires-clause-fills : goal.by_row-requires-clause-fills
by_row-requires-clause-fills c = two_fill _ _ _ (rw (c.requires.ring, c.requires.is_strict_ordered_ring) refl) _ _ refl c.requires.a_stands.sorted c.requires.b_stands.sorted c.requires.a_stands.sort c.requires.b_stands.sort

pub by_row-requires-clause-premises : goal.by_row-requires-clause-premises
by_row-requires-clause-premises c = two_statements _ _ _ _ _ c.requires.first_line c.requires.second_line
