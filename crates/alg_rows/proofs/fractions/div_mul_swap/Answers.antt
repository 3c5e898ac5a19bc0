use Rattle.std.proofs.Common.{refl}
use Rattle.alg_lemma.proofs.Named.{div_mul_swap-named}
use Rattle.alg_build.proofs.RowFacts.{four_fill}
use Rattle.alg_rows.proofs.fractions.div_mul_swap.Goals as goal

pub by_lemma-requires-clause-named : goal.by_lemma-requires-clause-named
by_lemma-requires-clause-named c = div_mul_swap-named _ c.requires.library

pub by_lemma-requires-clause-fills : goal.by_lemma-requires-clause-fills
by_lemma-requires-clause-fills c = four_fill _ _ _ (rw c.requires.field refl) _ _ _ _ refl c.requires.a_stands.sorted c.requires.b_stands.sorted c.requires.c_stands.sorted c.requires.d_stands.sorted c.requires.a_stands.sort c.requires.b_stands.sort c.requires.c_stands.sort c.requires.d_stands.sort

pub by_lemma-requires-clause-premises : goal.by_lemma-requires-clause-premises
by_lemma-requires-clause-premises c = refl
