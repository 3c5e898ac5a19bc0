use Rattle.std.proofs.Common.{sym, ap, ap₂, ◌∙◌}
use Rattle.std.specs.Prelude.{option_map}
use Rattle.alg_law.specs.Laws.{row_named}
use Rattle.alg_proof.specs.LemmaRows.{lemma_row_of, rows_of}
use Rattle.alg_proof.proofs.TableLemmas.{looked_up}
use Rattle.alg_proof.proofs.lemma_table.Lemmas.get.Goals as goal

pub returns-in-Some : goal.returns-in-Some
returns-in-Some c =
    record {
      row =
          ap (λ o. option_map (λ r. lemma_row_of r.now) (option_map (λ x. x.now) o)) (sym c.in-Some.is)
          ∙ (ap (option_map (λ r. lemma_row_of r.now)) c.get.ensures.value
          ∙ (looked_up (λ k. k.now) (λ r. r.now) lemma_row_of c.self.inside.rows.entries c.as_str.result.now c.self.invariant.1.0 ∙ ap₂ (λ ls n. row_named (rows_of ls) n) c.self.view_is c.as_str.ensures.text));
    }

pub returns-in-None : goal.returns-in-None
returns-in-None c =
    record {
      row =
          ap (λ o. option_map (λ r. lemma_row_of r.now) (option_map (λ x. x.now) o)) (sym c.in-None.is)
          ∙ (ap (option_map (λ r. lemma_row_of r.now)) c.get.ensures.value
          ∙ (looked_up (λ k. k.now) (λ r. r.now) lemma_row_of c.self.inside.rows.entries c.as_str.result.now c.self.invariant.1.0 ∙ ap₂ (λ ls n. row_named (rows_of ls) n) c.self.view_is c.as_str.ensures.text));
    }
