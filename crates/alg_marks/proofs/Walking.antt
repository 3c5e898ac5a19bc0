-- One walk for all that is found of trees: what is found lasts as the book grows.
use Rattle.std.proofs.Common.{◌≡◌, ℕ, zero, suc, ◌<◌, ◌≤◌, List, [], ◌∷◌, ◌++◌, length, get_or, refl, ap, sym, ◌∙◌, subst, arith, ◌⊎◌, inl, inr, length-append, All, Bool, true, false}
use Rattle.std.proofs.Math.ListN.{get_or-append}
use Rattle.std.proofs.Math.Seq.{get_or-append_seam}
use Rattle.std.proofs.lemmas.List.Elements.{All-head, All-tail}
use Rattle.alg_terms.specs.Tree.{Tree, App, of_list}
use Rattle.alg_expr.specs.declared.ids.ExprId.{ExprId}
use Rattle.alg_expr.specs.Ids.{tree_of, trees_at}
use Rattle.alg_expr.specs.Arena.{Extends}
use Rattle.alg_expr.proofs.ArenaLaws.{tree_of-extends}
use Rattle.alg_law.specs.WellSorted.{IsWellSorted}
use Rattle.alg_build.specs.Book.{Book, Grows, nothing}
use Rattle.alg_marks.specs.Marks.{AreWanted}
use Rattle.alg_marks.specs.Walks.{AreAllAt, HasPartsAt}

le_or_lt : (i n : ℕ) → (i < n) ⊎ (n ≤ i)
le_or_lt i n = grind arith

old_tree : (a b : Book) (i : ℕ) → Grows a b → i < length a.trees → get_or b.trees i nothing ≡ get_or a.trees i nothing
old_tree a b i g m = rw g.trees.1 (get_or-append a.trees g.trees.0 nothing i m)

module _ {X : Type 0} (At : Book → Tree → X → Type 0) (none : X) where
  pub first_all : (b : Book) (wanted : List Bool) → AreAllAt At none b wanted []
  first_all b wanted = record { within = omega arith; each = λ i l. absurd (omega (arith, l)) }

  -- all parts of a wanted tree come before it, so they are found
  pub next_parts : (b : Book) (wanted : List Bool) (xs : List X) (e : ExprId) → AreWanted b wanted → AreAllAt At none b wanted xs → e.index ≡ length xs → get_or wanted e.index false ≡ true → HasPartsAt At none b xs e
  next_parts b wanted xs e w h n want = record {
    parts = λ f s args is below.
        let parts = w.parts e f s args want is below in
        record {
          here = λ i z l. omega (arith, n, h.within, below i z l);
          below = λ i z l. omega (arith, n, below i z l);
          each = λ i z l. h.each (get_or args i z).index (omega (arith, n, below i z l)) (parts i z l);
        };
  }

  module _ (lasts : (a b : Book) (t : Tree) (x : X) → Grows a b → At a t x → At b t x) where
    pub next_all : (a b : Book) (wanted : List Bool) (xs : List X) (x : X) → AreAllAt At none a wanted xs → Grows a b → length xs < length a.trees → (get_or wanted (length xs) false ≡ true → At b (get_or a.trees (length xs) nothing) x)
        → AreAllAt At none b wanted (xs ++ x ∷ [])
    next_all a b wanted xs x h g l w = record {
      within = omega (arith, l, ap length g.trees.1, length-append a.trees g.trees.0, length-append xs (x ∷ []));
      each = λ i m. at i m (le_or_lt i (length xs));
    }
      where
        at : (i : ℕ) → i < length (xs ++ x ∷ []) → (i < length xs) ⊎ (length xs ≤ i) → get_or wanted i false ≡ true → At b (get_or b.trees i nothing) (get_or (xs ++ x ∷ []) i none)
        at i m (inl n) want = rw (old_tree a b i g (omega (arith, n, l)), get_or-append xs (x ∷ []) none i n) (lasts a b (get_or a.trees i nothing) (get_or xs i none) g (h.each i n want))
        at i m (inr n) want =
            let e : i ≡ length xs = omega (arith, m, n, length-append xs (x ∷ [])) in
            let want' : get_or wanted (length xs) false ≡ true = rw (← e) want in
            rw (e, old_tree a b (length xs) g l, get_or-append_seam xs x [] none) (w want')

    pub all_grows : (a b : Book) (wanted : List Bool) (xs : List X) → Grows a b → AreAllAt At none a wanted xs → AreAllAt At none b wanted xs
    all_grows a b wanted xs g h = record {
      within = omega (arith, h.within, ap length g.trees.1, length-append a.trees g.trees.0);
      each = λ i m want. rw (old_tree a b i g (omega (arith, m, h.within))) (lasts a b (get_or a.trees i nothing) (get_or xs i none) g (h.each i m want));
    }

flagged_within : (bs : List Bool) (i : ℕ) → get_or bs i false ≡ true → i < length bs
flagged_within [] i e = cc
flagged_within (b ∷ bs) zero e = omega arith
flagged_within (b ∷ bs) (suc i) e = omega (arith, flagged_within bs i e)

trees_at-extends : (ts us : List Tree) (n : ℕ) (args : List ExprId) → Extends ts us → n ≤ length ts → All (λ a. a.index < n) args → trees_at us args ≡ trees_at ts args
trees_at-extends ts us n [] x m h = refl
trees_at-extends ts us n (a ∷ args) x m h =
    let p : tree_of us a ≡ tree_of ts a = tree_of-extends ts us a x (omega (arith, m, All-head (λ a. a.index < n) a args h)) in
    let q : trees_at us args ≡ trees_at ts args = trees_at-extends ts us n args x m (All-tail (λ a. a.index < n) a args h) in
    λ i. p i ∷ q i

pub wanted-grows : (a b : Book) (wanted : List Bool) → Grows a b → AreWanted a wanted → AreWanted b wanted
wanted-grows a b wanted g w = record {
  within = omega (arith, w.within, ap length g.trees.1, length-append a.trees g.trees.0);
  sorted = λ i want.
      let l : i < length a.trees = omega (arith, flagged_within wanted i want, w.within) in
      let e : get_or b.trees i nothing ≡ get_or a.trees i nothing = old_tree a b i g l in
      rw g.theory (subst (λ (t : Tree). IsWellSorted a.theory.declarations t) (sym e) (w.sorted i want));
  parts = λ e f s args want is below.
      let l : e.index < length a.trees = omega (arith, flagged_within wanted e.index want, w.within) in
      let p : tree_of b.trees e ≡ tree_of a.trees e = tree_of-extends a.trees b.trees e g.trees l in
      let q : trees_at b.trees args ≡ trees_at a.trees args = trees_at-extends a.trees b.trees e.index args g.trees (omega (arith, l)) below in
      w.parts e f s args want (sym p ∙ is ∙ ap (λ ts. App f s (of_list ts)) q) below;
}
