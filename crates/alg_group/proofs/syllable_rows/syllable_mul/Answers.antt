use Rattle.alg_lemma.proofs.Named.{syllable_mul-named}
use Rattle.alg_group.proofs.syllable_rows.syllable_mul.Goals as goal

pub by_lemma-requires-clause-named : goal.by_lemma-requires-clause-named
by_lemma-requires-clause-named c = syllable_mul-named _ c.requires.library
