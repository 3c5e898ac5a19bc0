-- What is said of a goal is its entry.
use Rattle.std.proofs.Common.{◌≡◌, ℕ, List, ◌∷◌, ◌++◌, refl, ap, sym, ◌∙◌, append_assoc, Option}
use Rattle.std.specs.Prelude.{codes}
use Rattle.alg_terms.specs.Tree.{Statement}
use Rattle.alg_law.specs.Declarations.{Declaration}
use Rattle.alg_steps.specs.declared.notes.Note.{Note}
use Rattle.alg_report.specs.Judged.{Verdict, Judged}
use Rattle.alg_report.specs.Texts.{note_text, notes_text, open_text, verdict_text, judged_text}
use Rattle.alg_scripts.specs.declared.fates.End.{End}
use Rattle.alg_scripts.specs.declared.fates.End.TheVariants as end
use Rattle.alg_scripts.specs.declared.fates.Fate.{Fate}
use Rattle.alg_scripts.specs.Fates.{IsEnd, IsFateOf, end_text, fate_text}

end_told : (number : Option ℕ) (ds : List Declaration) (goal : Statement) (label : List ℕ) (e : End) (v : Verdict) → IsEnd number ds goal e v → end_text label e ≡ verdict_text label ds v
end_told number ds goal label (end.Closed proof) v h = rw h.0 refl
end_told number ds goal label (end.Open proof text) v h = ap (open_text label) h.3 ∙ sym (ap (verdict_text label ds) h.1)
end_told number ds goal label (end.Failed step cause) v h = rw h refl

pub fate_told : (number : Option ℕ) (ds : List Declaration) (goal : Statement) (label : List ℕ) (f : Fate) (j : Judged) → IsFateOf number ds goal j f → fate_text label f ≡ judged_text label ds j
fate_told number ds goal label f j h = ap (λ ns. notes_text label ns ++ end_text label f.end) h.notes ∙ ap (λ t. notes_text label j.notes ++ t) (end_told number ds goal label f.end j.verdict h.end)

-- the notes, one after another
pub line_added : (label : List ℕ) (left rest : List Note) (note : Note) (a b : List ℕ) (total : List ℕ) → left ≡ note ∷ rest → b ≡ a ++ (label ++ (codes ": Try this: " ++ (note_text note ++ codes "\n")))
    → a ++ notes_text label left ≡ total → b ++ notes_text label rest ≡ total
line_added label left rest note a b total is added before =
    let all : a ++ notes_text label (note ∷ rest) ≡ total = rw is at before in
    rw added (append_assoc a (label ++ (codes ": Try this: " ++ (note_text note ++ codes "\n"))) (notes_text label rest) ∙ all)
