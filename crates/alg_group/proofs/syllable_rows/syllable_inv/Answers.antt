use Rattle.alg_lemma.proofs.Named.{syllable_inv-named}
use Rattle.alg_group.proofs.syllable_rows.syllable_inv.Goals as goal

pub by_lemma-requires-clause-named : goal.by_lemma-requires-clause-named
by_lemma-requires-clause-named c = syllable_inv-named _ c.requires.library
