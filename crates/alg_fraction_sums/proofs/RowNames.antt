-- A row found by its name, and what its lines ask.
use Rattle.alg_lemma.proofs.Named.{mul_right_comm-named}
use Rattle.alg_build.proofs.RowFacts.{row_facts, proves-concludes}

pub ruleset rearranging = (row_facts, proves-concludes, mul_right_comm-named)
