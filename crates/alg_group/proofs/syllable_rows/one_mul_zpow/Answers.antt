use Rattle.alg_lemma.proofs.Named.{one_mul_zpow-named}
use Rattle.alg_group.proofs.syllable_rows.one_mul_zpow.Goals as goal

pub by_lemma-requires-clause-named : goal.by_lemma-requires-clause-named
by_lemma-requires-clause-named c = one_mul_zpow-named _ c.requires.library
