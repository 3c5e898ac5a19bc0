-- Rows found by their names, and what their lines ask.
use Rattle.alg_law.proofs.Named.{min_eq_left-named, min_eq_right-named, max_eq_left-named, max_eq_right-named, abs_of_nonneg-named}
use Rattle.alg_lemma.proofs.Named.{abs_neg_lit-named}
use Rattle.alg_build.proofs.RowFacts.{row_facts, proves-concludes}

pub ruleset order_rows = (row_facts, proves-concludes, min_eq_left-named, min_eq_right-named, max_eq_left-named, max_eq_right-named, abs_of_nonneg-named, abs_neg_lit-named)
