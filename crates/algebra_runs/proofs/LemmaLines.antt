-- What the lines by a lemma need.
use Rattle.alg_lemma.proofs.Named.{add_tail-named}
use Rattle.alg_build.proofs.RowFacts.{row_facts}

pub ruleset lemma_lines = (row_facts, add_tail-named)
