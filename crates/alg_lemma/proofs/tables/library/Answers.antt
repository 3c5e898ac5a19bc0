use Rattle.std.proofs.Common.{◌≡◌, ◌<◌, length, arith, ap, sym, ◌∙◌}
use Rattle.std.proofs.lemmas.List.{length-map}
use Rattle.alg_proof.specs.LemmaRows.{rows_of}
use Rattle.alg_lemma.specs.Lemmas.{lemma_groups, lemma_table}
use Rattle.alg_lemma.proofs.Adding.{none_added, added_group, next_group, all_added}
use Rattle.alg_lemma.proofs.Named.{holds}
use Rattle.alg_lemma.proofs.tables.library.Goals as goal

pub loop-group-init : goal.loop-group-init
unfolding lemma_table
loop-group-init c =
    rw (ap rows_of (c.in_ok-table.ensures {u = tt}))
    (none_added (λ g. g.now) c.lemmas-group-items.result lemma_groups c.lemmas-group-items.ensures.rows c.lemmas-group-items.ensures.proved)

pub loop-group-preserved : goal.loop-group-preserved
unfolding lemma_groups
loop-group-preserved c =
    let count : length c.lemmas-group-items.result ≡ length lemma_groups = sym (length-map c.lemmas-group-items.result _) ∙ ap length c.lemmas-group-items.ensures.rows in
    let below : c.loop-group.group-index < length c.lemmas-group-items.result = omega (arith, count) in
    added_group (λ g. g.now) lemma_table (rows_of c.loop-group.table) (rows_of c.add_all.new.table) c.lemmas-group-items.result c.loop-group.group-index _ below (c.in_ok-add_all.ensures {u = tt}) c.loop-group.invariant

pub add_all-requires : goal.add_all-requires
unfolding lemma_groups
add_all-requires c =
    let count : length c.lemmas-group-items.result ≡ length lemma_groups = sym (length-map c.lemmas-group-items.result _) ∙ ap length c.lemmas-group-items.ensures.rows in
    let below : c.loop-group.group-index < length c.lemmas-group-items.result = omega (arith, count) in
    next_group (λ g. g.now) lemma_table (rows_of c.loop-group.table) c.lemmas-group-items.result c.loop-group.group-index _ below c.loop-group.invariant

pub returns-clause-table : goal.returns-clause-table
unfolding lemma_groups
returns-clause-table c =
    let count : length c.lemmas-group-items.result ≡ length lemma_groups = sym (length-map c.lemmas-group-items.result _) ∙ ap length c.lemmas-group-items.ensures.rows in
    all_added (λ g. g.now) lemma_table (rows_of c.loop-group.table) c.lemmas-group-items.result c.loop-group.group-index (omega (arith, count)) c.loop-group.invariant

pub returns-clause-holds : goal.returns-clause-holds
unfolding lemma_groups
returns-clause-holds c =
    let count : length c.lemmas-group-items.result ≡ length lemma_groups = sym (length-map c.lemmas-group-items.result _) ∙ ap length c.lemmas-group-items.ensures.rows in
    holds (rows_of c.loop-group.table) (all_added (λ g. g.now) lemma_table (rows_of c.loop-group.table) c.lemmas-group-items.result c.loop-group.group-index (omega (arith, count)) c.loop-group.invariant)
