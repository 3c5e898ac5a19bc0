-- Hypotheses one by one.
use Rattle.std.proofs.Common.{◌≡◌, ℕ, zero, suc, ◌+◌, ◌-◌, ◌<◌, List, ◌∷◌, get_or, refl, ap, sym, ◌∙◌, length, arith, drop, drop-cons, Some, None, Option, slice_get, add-one}
use Rattle.alg_terms.specs.Tree.{Tree, Statement}
use Rattle.alg_expr.specs.declared.ids.Stmt.{Stmt}
use Rattle.alg_expr.specs.Ids.{statement_of}
use Rattle.alg_law.specs.declared.declarations.Declared.{Declared}
use Rattle.alg_law.specs.Declarations.{declarations_of, hypotheses}
use Rattle.alg_law.specs.Lending.{TellsHypothesis}

after : (h : Statement) (hs : List Statement) (k : ℕ) → (k ≡ 0 → ⊥) → slice_get (h ∷ hs) k ≡ slice_get hs (k - 1)
after h hs zero n = absurd (n refl)
after h hs (suc k) n = let e : k ≡ suc k - 1 = omega arith in ap (λ j. slice_get hs j) e

module _ (ts : List Tree) (ds : List Declared) (i : ℕ) (d : Declared) (k : ℕ) (v : Option Statement) (l : i < length ds) where
  pub nth-skip : TellsHypothesis ts (get_or ds i d) None → slice_get (hypotheses (declarations_of ts (drop i ds))) k ≡ v → slice_get (hypotheses (declarations_of ts (drop (i + 1) ds))) k ≡ v
  nth-skip t e =
      let f = rw (drop-cons ds i d l) at e in
      rw add-one (ap (λ hs. slice_get hs k) (sym (t (hypotheses (declarations_of ts (drop (suc i) ds))))) ∙ f)

  pub nth-pass : (s : Stmt) → TellsHypothesis ts (get_or ds i d) (Some s) → (k ≡ 0 → ⊥) → slice_get (hypotheses (declarations_of ts (drop i ds))) k ≡ v → slice_get (hypotheses (declarations_of ts (drop (i + 1) ds))) (k - 1) ≡ v
  nth-pass s t n e =
      let f = rw (drop-cons ds i d l) at e in
      rw add-one (sym (after (statement_of ts s) (hypotheses (declarations_of ts (drop (suc i) ds))) k n) ∙ ap (λ hs. slice_get hs k) (sym (t.1 (hypotheses (declarations_of ts (drop (suc i) ds))))) ∙ f)
