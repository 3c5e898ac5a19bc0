use Rattle.std.specs.Prelude.{map, drop}
use Rattle.alg_proof.specs.LemmaRows.{rows_of}
use Rattle.alg_lemma.specs.Lemmas.{lemma_table}
use Rattle.alg_lemma.proofs.Adding.{AreLeft}
use Rattle.alg_lemma.proofs.tables.library.Given as goal

abbrev pub invariant-loop-group : goal.invariant-loop-group
invariant-loop-group l = AreLeft lemma_table (rows_of l.table) (map (λ g. g.now) (drop l.group-index l.group-items))
