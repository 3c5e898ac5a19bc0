use Rattle.std.specs.Prelude.{◌≡◌, ◌++◌, map, true, drop}
use Rattle.alg_proof.specs.LemmaRows.{lemma_row_of, rows_of}
use Rattle.alg_lemma.specs.Proving.{all_may_join}
use Rattle.alg_lemma.proofs.tables.add_all.Given as goal

abbrev pub invariant-loop-lemma : goal.invariant-loop-lemma
invariant-loop-lemma l =
    record {
      whole : rows_of l.table ++ map lemma_row_of (drop l.lemma-index l.lemmas) ≡ rows_of l.fn.table ++ map lemma_row_of l.lemmas;
      left : all_may_join (rows_of l.table) (drop l.lemma-index l.lemmas) ≡ true;
    }
