-- Rows found by their names, and what their lines ask.
use Rattle.alg_lemma.proofs.Named.{atom_word-named, word_cancel-named, node_mono-named, mul_same-named, word_inv-named, word_inv_end-named, inv_of_word-named, div_of_word-named, word_first-named, syllable_mul-named, syllable_inv-named, syllable_zpow-named, one_mul_zpow-named, one_zpow-named, zpow_neg_lit-named}
use Rattle.alg_build.proofs.RowFacts.{row_facts, proves-concludes}

pub ruleset word_rows = (row_facts, proves-concludes, atom_word-named, word_cancel-named, node_mono-named, mul_same-named, word_inv-named, word_inv_end-named, inv_of_word-named, div_of_word-named, word_first-named)

pub ruleset syllable_rows = (row_facts, proves-concludes, syllable_mul-named, syllable_inv-named, syllable_zpow-named, one_mul_zpow-named, one_zpow-named, zpow_neg_lit-named)
