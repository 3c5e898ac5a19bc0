use Rattle.std.proofs.Common.{refl, map, ap, ◌∙◌, ◌++◌, ◌∷◌, []}
use Rattle.std.proofs.lemmas.List.{map-append}
use Rattle.indexmap.proofs.CallerLemmas.{insert_entry-new}
use Rattle.alg_law.specs.Laws.{row_named}
use Rattle.alg_proof.specs.LemmaRows.{lemma_row_of, rows_of}
use Rattle.alg_proof.specs.Following.{IsAdmissible}
use Rattle.alg_proof.proofs.TableLemmas.{All-push_row, maps-push, none_looked_up}
use Rattle.alg_proof.proofs.lemma_table.Lemmas.push.Goals as goal

pub invariant_of-self-2 : goal.invariant_of-self-2
invariant_of-self-2 c =
    let none = none_looked_up (λ k. k.now) (λ r. r.now) lemma_row_of c.self.inside.rows.entries c.args.row.now.row.name.now c.self.invariant.1.0 (ap (λ ls. row_named (rows_of ls) c.args.row.now.row.name.now) c.self.view_is ∙ c.requires.new) in
    let grown = c.in_ok-insert.ensures.entries ∙ insert_entry-new _ c.self.inside.rows c.args.row.now.row.name c.args.row none in (
      All-push_row (λ e. e.1.now) lemma_row_of IsAdmissible c.self.inside.rows.entries c.insert.new.self.entries (c.args.row.now.row.name, c.args.row) grown c.self.invariant.0 c.requires.admissible,
      (
        maps-push (λ e. e.0.now) (λ e. e.1.now.row.name.now) c.self.inside.rows.entries c.insert.new.self.entries (c.args.row.now.row.name, c.args.row) grown c.self.invariant.1.0 refl,
        c.self.invariant.1.1,
      ),
    )

pub returns-clause-ok : goal.returns-clause-ok
returns-clause-ok c =
    let none = none_looked_up (λ k. k.now) (λ r. r.now) lemma_row_of c.self.inside.rows.entries c.args.row.now.row.name.now c.self.invariant.1.0 (ap (λ ls. row_named (rows_of ls) c.args.row.now.row.name.now) c.self.view_is ∙ c.requires.new) in
    ap (map (λ e. e.1.now)) (c.in_ok-insert.ensures.entries ∙ insert_entry-new _ c.self.inside.rows c.args.row.now.row.name c.args.row none)
    ∙ (map-append (λ e. e.1.now) c.self.inside.rows.entries ((c.args.row.now.row.name, c.args.row) ∷ [])
    ∙ ap (λ ls. ls ++ c.args.row.now ∷ []) c.self.view_is)
