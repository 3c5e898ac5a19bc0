use Rattle.std.specs.Prelude.{◌++◌, map}
use Rattle.alg_proof.specs.LemmaRows.{lemma_row_of, rows_of}
use Rattle.alg_lemma.proofs.Adding.{IsLeft, added}
use Rattle.alg_lemma.proofs.tables.add_all.Goals as goal

pub loop-lemma-preserved : goal.loop-lemma-preserved
loop-lemma-preserved c =
    let now : IsLeft (rows_of c.args.table.now ++ map lemma_row_of c.args.lemmas.now) (rows_of c.add.new.table) _ =
    added (rows_of c.args.table.now ++ map lemma_row_of c.args.lemmas.now) (rows_of c.loop-lemma.table) (rows_of c.add.new.table) c.args.lemmas.now c.loop-lemma.lemma-index _ c.loop-lemma-test.true (c.in_ok-add.ensures {u = tt})
    (record { whole = c.loop-lemma.invariant.whole; left = c.loop-lemma.invariant.left }) in
    record { whole = now.whole; left = now.left }
