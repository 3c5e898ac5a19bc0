-- Rows found by their names, and what their lines ask.
use Rattle.alg_law.proofs.Named.{zero_add-named, add_zero-named}
use Rattle.alg_lemma.proofs.Named.{merge_left-named, merge_right-named, add_add_add_comm-named, sum_drop-named}
use Rattle.alg_build.proofs.RowFacts.{row_facts, proves-concludes}

pub ruleset sums = (row_facts, proves-concludes, zero_add-named, add_zero-named, merge_left-named, merge_right-named, add_add_add_comm-named, sum_drop-named)
