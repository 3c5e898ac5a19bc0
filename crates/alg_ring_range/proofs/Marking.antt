-- Marks on trees.
use Rattle.std.proofs.Common.{◌≡◌, ℕ, zero, suc, ◌<◌, ◌≤◌, List, [], ◌∷◌, length, get_or, refl, ap, sym, ◌∙◌, subst, arith, ◌⊎◌, inl, inr, All, Bool, true, false}
use Rattle.std.specs.Prelude.{◌≢◌}
use Rattle.std.proofs.Math.ListN.{set}
use Rattle.std.proofs.lemmas.List.{get_or-set_same, get_or-set_other, get_or_past, length-set}
use Rattle.std.proofs.lemmas.Bool.{cases_lt}
use Rattle.std.proofs.lemmas.List.Elements.{All-head, All-tail}
use Rattle.alg_terms.specs.declared.sorts.Sort.{Sort}
use Rattle.alg_terms.specs.declared.symbols.Sym.{Sym}
use Rattle.alg_terms.specs.Tree.{Tree, Lit, Var, App, of_list, to_list}
use Rattle.alg_terms.proofs.TreeLaws.{to_list-of_list}
use Rattle.alg_expr.specs.declared.ids.ExprId.{ExprId}
use Rattle.alg_expr.specs.Ids.{tree_of, trees_at, IsIn}
use Rattle.alg_expr.specs.Distinct.{AreDistinct}
use Rattle.alg_expr.proofs.DistinctLaws.{same_ids-from_trees}
use Rattle.alg_ring_range.specs.Marks.{marked_all, AreParts, MarksParts, AreMarked}

set-kept : (bs : List Bool) (i j : ℕ) → get_or bs j false ≡ true → get_or (set bs i true) j false ≡ true
set-kept [] i j e = cc
set-kept (b ∷ bs) zero zero e = refl
set-kept (b ∷ bs) zero (suc j) e = e
set-kept (b ∷ bs) (suc i) zero e = e
set-kept (b ∷ bs) (suc i) (suc j) e = set-kept bs i j e

pub kept : (args : List ExprId) (bs : List Bool) (j : ℕ) → get_or bs j false ≡ true → get_or (marked_all bs args) j false ≡ true
kept [] bs j e = e
kept (a ∷ args) bs j e = kept args (set bs a.index true) j (set-kept bs a.index j e)

pub above : (args : List ExprId) (bs : List Bool) (n j : ℕ) → All (λ a. a.index < n) args → n ≤ j → get_or (marked_all bs args) j false ≡ get_or bs j false
above [] bs n j h l = refl
above (a ∷ args) bs n j h l =
    let p : a.index < n = All-head (λ a. a.index < n) a args h in
    above args (set bs a.index true) n j (All-tail (λ a. a.index < n) a args h) l ∙ get_or-set_other bs a.index j true false (λ e. omega (arith, p, l, e))

pub size : (args : List ExprId) (bs : List Bool) → length (marked_all bs args) ≡ length bs
size [] bs = refl
size (a ∷ args) bs = size args (set bs a.index true) ∙ length-set bs a.index true

All-cons : {A : Type 0} (P : A → Type 0) (x : A) (xs : List A) → P x → All P xs → All P (x ∷ xs)
All-cons P x xs p h zero d l = p
All-cons P x xs p h (suc k) d l = h k d (omega (arith, l))

pub marks : (args : List ExprId) (bs : List Bool) → All (λ a. a.index < length bs) args → All (λ a. get_or (marked_all bs args) a.index false ≡ true) args
marks [] bs h = λ k d l. absurd (omega (arith, l))
marks (a ∷ args) bs h =
    All-cons (λ x. get_or (marked_all (set bs a.index true) args) x.index false ≡ true) a args
    (kept args (set bs a.index true) a.index (get_or-set_same bs a.index true false (All-head (λ a. a.index < length bs) a args h)))
    (marks args (set bs a.index true) (λ k d l. omega (arith, All-tail (λ a. a.index < length bs) a args h k d l, length-set bs a.index true)))

eq_or : (i j : ℕ) → (i ≡ j) ⊎ (i ≢ j)
eq_or i j = elim (cases_lt i j) [ inl l ↦ inr (λ e. omega (arith, l, e)) | inr l ↦ elim (cases_lt j i) [ inl m ↦ inr (λ e. omega (arith, m, e)) | inr m ↦ inl (omega (arith, l, m)) ] ]

-- the parts of one tree are the same ids

app_parts : (t : Tree) (f : Sym) (s : Sort) (us vs : List Tree) → t ≡ App f s (of_list us) → AreParts t vs → us ≡ vs
app_parts (Lit s n) f r us vs e h = cc
app_parts (Var d s) f r us vs e h = cc
app_parts (App g r ws) f s us vs e h =
    let p : ws ≡ of_list us = cc in
    sym (to_list-of_list us) ∙ ap to_list (sym p ∙ h) ∙ to_list-of_list vs

pub step_marked : (trees : List Tree) (n : ℕ) (e : ExprId) (old new : List Bool) → AreDistinct trees → n < length trees → e.index ≡ n → get_or old n false ≡ true → AreMarked trees (suc n) old → MarksParts trees e old new → AreMarked trees n new
step_marked trees n e old new distinct l is flag h m = rw m.marks (record {
  size = size m.args old ∙ h.size;
  parts = λ x f s args from flagged tree below. at x f s args from flagged tree below (eq_or x.index n);
})
  where
    here : All (IsIn trees) m.args
    here = λ k d j. omega (arith, l, is, m.below k d j)

    at : (x : ExprId) (f : Sym) (s : Sort) (args : List ExprId) → n ≤ x.index → get_or (marked_all old m.args) x.index false ≡ true → tree_of trees x ≡ App f s (of_list (trees_at trees args)) → All (λ a. a.index < x.index) args → (x.index ≡ n) ⊎ (x.index ≢ n)
        → All (λ a. get_or (marked_all old m.args) a.index false ≡ true) args
    at x f s args from flagged tree below (inl p) =
        let same : x ≡ e = (λ i. record { index = (p ∙ sym is) i }) in
        let ts : trees_at trees args ≡ trees_at trees m.args = app_parts (tree_of trees e) f s (trees_at trees args) (trees_at trees m.args) (ap (tree_of trees) (sym same) ∙ tree) m.are in
        let es : args ≡ m.args = same_ids-from_trees trees args m.args distinct (λ k d j. omega (arith, l, p, below k d j)) here ts in
        subst (λ (as' : List ExprId). All (λ a. get_or (marked_all old m.args) a.index false ≡ true) as') (sym es) (marks m.args old (λ k d j. omega (arith, here k d j, h.size)))
    at x f s args from flagged tree below (inr p) =
        let before : get_or old x.index false ≡ true = sym (above m.args old n x.index (λ k d j. omega (arith, is, m.below k d j)) from) ∙ flagged in
        let q = h.parts x f s args (omega (arith, from, p)) before tree below in
        λ k d j. kept m.args old (get_or args k d).index (q k d j)

pub flag_at : (bs : List Bool) (i : ℕ) (x : Bool) → i < length bs → x ≡ get_or bs i x → x ≡ true → get_or bs i false ≡ true
flag_at [] i x l e f = absurd (omega (arith, l))
flag_at (b ∷ bs) zero x l e f = sym e ∙ f
flag_at (b ∷ bs) (suc i) x l e f = flag_at bs i x (omega (arith, l)) e f

-- before any tree is looked at
pub start_marked : (trees : List Tree) (n : ℕ) (flags : List Bool) → n ≡ length trees → length flags ≡ length trees → AreMarked trees n flags
start_marked trees n flags e f = record {
  size = f;
  parts = λ x g s args from flagged tree below. absurd (let h = get_or_past flags x.index false (omega (arith, e, f, from)) in cc);
}
