use Rattle.std.proofs.Common.{refl}
use Rattle.alg_lemma.proofs.Named.{mul_div_comm-named}
use Rattle.alg_build.proofs.RowFacts.{fill-acd}
use Rattle.alg_rows.proofs.fractions.mul_div_comm.Goals as goal

pub by_lemma-requires-clause-named : goal.by_lemma-requires-clause-named
by_lemma-requires-clause-named c = mul_div_comm-named _ c.requires.library

pub by_lemma-requires-clause-fills : goal.by_lemma-requires-clause-fills
by_lemma-requires-clause-fills c = fill-acd _ _ _ (rw c.requires.field refl) _ _ _ refl c.requires.a_stands.sorted c.requires.c_stands.sorted c.requires.d_stands.sorted c.requires.a_stands.sort c.requires.c_stands.sort c.requires.d_stands.sort

pub by_lemma-requires-clause-premises : goal.by_lemma-requires-clause-premises
by_lemma-requires-clause-premises c = refl
