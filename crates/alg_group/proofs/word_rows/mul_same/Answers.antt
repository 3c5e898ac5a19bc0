use Rattle.alg_lemma.proofs.Named.{mul_same-named}
use Rattle.alg_group.proofs.word_rows.mul_same.Goals as goal

pub by_lemma-requires-clause-named : goal.by_lemma-requires-clause-named
by_lemma-requires-clause-named c = mul_same-named _ c.requires.library
