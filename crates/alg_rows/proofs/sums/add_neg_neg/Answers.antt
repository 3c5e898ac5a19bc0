use Rattle.std.proofs.Common.{refl}
use Rattle.alg_lemma.proofs.Named.{add_neg_neg-named}
use Rattle.alg_build.proofs.RowFacts.{three_fill, one_premise}
use Rattle.alg_rows.proofs.sums.add_neg_neg.Goals as goal

pub by_lemma-requires-clause-named : goal.by_lemma-requires-clause-named
by_lemma-requires-clause-named c = add_neg_neg-named _ c.requires.library

pub by_lemma-requires-clause-fills : goal.by_lemma-requires-clause-fills
by_lemma-requires-clause-fills c = three_fill _ _ _ (rw c.requires.add_comm_group refl) _ _ _ refl c.requires.a_stands.sorted c.requires.b_stands.sorted c.requires.c_stands.sorted c.requires.a_stands.sort c.requires.b_stands.sort c.requires.c_stands.sort

pub by_lemma-requires-clause-premises : goal.by_lemma-requires-clause-premises
by_lemma-requires-clause-premises c = one_premise _ _ _ _ c.requires.first_line
