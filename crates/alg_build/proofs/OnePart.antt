-- The line of a symbol over one part.
use Rattle.std.proofs.Common.{◌≡◌, ℕ, List, [], ◌∷◌, map, refl, ap, ◌∙◌, None, true}
use Rattle.alg_terms.specs.declared.sorts.Sort.{Sort}
use Rattle.alg_terms.specs.declared.symbols.Sym.{Sym}
use Rattle.alg_terms.specs.Tree.{Tree, App, Cons, Nil, of_list, sort_of_tree}
use Rattle.alg_expr.specs.declared.ids.ExprId.{ExprId}
use Rattle.alg_expr.specs.Ids.{tree_of, trees_at}
use Rattle.alg_expr.specs.Applying.{arity_fits, sorts_fit}
use Rattle.alg_build.specs.Book.{Book, Grows, Makes, Proves}
use Rattle.alg_build.specs.declared.rewriting.Rewriting.{Rewriting}
use Rattle.alg_build.specs.Rewriting.{AllProve, CanStand, Heads, StandsOverOne, Turns}
use Rattle.alg_build.proofs.Fitting.{fits}
use Rattle.alg_build.proofs.Rewritings.{grows-heads, turns-same}

module _ (a : Book) (f : Sym) (sort : Sort) (r : Rewriting) (h : StandsOverOne a f sort r) where
  pub one_arity : arity_fits f 1 ≡ true
  one_arity = (fits a.theory.declarations f sort (h.from_sort ∷ []) h.heads.good).arity

  pub one_sorts : sorts_fit f sort (sort_of_tree (tree_of a.trees r.to) ∷ []) ≡ true
  one_sorts = ap (sorts_fit f sort) (λ i. (ap sort_of_tree h.turns.tree ∙ h.turns.right) i ∷ []) ∙ (fits a.theory.declarations f sort (h.from_sort ∷ []) h.heads.good).sorts

pub one_kept : (a b : Book) (f : Sym) (sort t : Sort) (r : Rewriting) (e : ExprId) (x y : Tree) → r.line ≡ None → Turns a t r x y → Heads a f sort (t ∷ []) → Makes a b e (App f sort (of_list (trees_at a.trees (r.to ∷ []))))
    → Turns b sort (record { to = e; line = None }) (App f sort (Cons x Nil)) (App f sort (Cons y Nil))
one_kept a b f sort t r e x y n h k m = record {
  here = m.here;
  tree = m.tree ∙ (λ i. App f sort (Cons (h.tree i) Nil));
  says = λ i. App f sort (Cons (turns-same a t r x y h n i) Nil);
  sorted = rw (m.keeps.theory, h.right, k.good, h.sorted) refl;
  left = refl;
  right = refl;
}

one_heads : (b : Book) (f : Sym) (sort t : Sort) (x : Tree) → sort_of_tree x ≡ t → Heads b f sort (t ∷ []) → Heads b f sort (map sort_of_tree (x ∷ []))
one_heads b f sort t x e h = rw e h

pub one_stands : (a b : Book) (f : Sym) (sort : Sort) (r : Rewriting) (i : ℕ) (h : StandsOverOne a f sort r) → Grows a b → ((t : Sort) (x y : Tree) → Turns a t r x y → Proves b i x y) → CanStand b f (i ∷ [])
one_stands a b f sort r i h g p = record {
  sort = sort;
  from = h.from ∷ [];
  into = h.into ∷ [];
  prove = (p h.from_sort h.from h.into h.turns, tt);
  heads = one_heads b f sort h.from_sort h.from h.turns.left (grows-heads a b f sort (h.from_sort ∷ []) g h.heads);
}

pub one_later : (a b c : Book) (f : Sym) (r : Rewriting) (i : ℕ) → Grows a b → ((t : Sort) (x y : Tree) → Turns a t r x y → Proves b i x y) → (sort : Sort) (q : Rewriting)
    → ((s : Sort) (xs ys : List Tree) → AllProve b (i ∷ []) xs ys → Heads b f s (map sort_of_tree xs) → Turns c s q (App f s (of_list xs)) (App f s (of_list ys)))
    → (t : Sort) (x y : Tree) → Turns a t r x y → Heads a f sort (t ∷ []) → Turns c sort q (App f sort (Cons x Nil)) (App f sort (Cons y Nil))
one_later a b c f r i g p sort q k t x y h w = k sort (x ∷ []) (y ∷ []) (p t x y h, tt) (one_heads b f sort t x h.left (grows-heads a b f sort (t ∷ []) g w))
