use Rattle.alg_lemma.proofs.Named.{zpow_neg_lit-named}
use Rattle.alg_group.proofs.syllable_rows.zpow_neg_lit.Goals as goal

pub by_lemma-requires-clause-named : goal.by_lemma-requires-clause-named
by_lemma-requires-clause-named c = zpow_neg_lit-named _ c.requires.library
