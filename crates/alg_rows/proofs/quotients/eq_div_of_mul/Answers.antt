use Rattle.std.proofs.Common.{refl}
use Rattle.alg_lemma.proofs.Named.{eq_div_of_mul-named}
use Rattle.alg_build.proofs.RowFacts.{three_fill, two_statements, proves-concludes}
use Rattle.alg_rows.proofs.quotients.eq_div_of_mul.Goals as goal

pub by_lemma-requires-clause-named : goal.by_lemma-requires-clause-named
by_lemma-requires-clause-named c = eq_div_of_mul-named _ c.requires.library

pub by_lemma-requires-clause-fills : goal.by_lemma-requires-clause-fills
by_lemma-requires-clause-fills c = three_fill _ _ _ (rw c.requires.field refl) _ _ _ refl c.requires.a_stands.sorted c.requires.b_stands.sorted c.requires.c_stands.sorted c.requires.a_stands.sort c.requires.b_stands.sort c.requires.c_stands.sort

pub by_lemma-requires-clause-premises : goal.by_lemma-requires-clause-premises
by_lemma-requires-clause-premises c = two_statements _ _ _ _ _ (proves-concludes _ _ _ _ c.requires.first_line) c.requires.second_line
