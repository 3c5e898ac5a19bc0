use Rattle.alg_lemma.proofs.Named.{word_cancel-named}
use Rattle.alg_group.proofs.word_rows.word_cancel.Goals as goal

pub by_lemma-requires-clause-named : goal.by_lemma-requires-clause-named
by_lemma-requires-clause-named c = word_cancel-named _ c.requires.library
