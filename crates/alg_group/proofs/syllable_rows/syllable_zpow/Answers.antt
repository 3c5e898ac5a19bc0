use Rattle.alg_lemma.proofs.Named.{syllable_zpow-named}
use Rattle.alg_group.proofs.syllable_rows.syllable_zpow.Goals as goal

pub by_lemma-requires-clause-named : goal.by_lemma-requires-clause-named
by_lemma-requires-clause-named c = syllable_zpow-named _ c.requires.library
