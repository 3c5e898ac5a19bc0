-- A symbol over a literal and a tree.
use Rattle.std.proofs.Common.{◌≡◌, ℕ, List, [], ◌∷◌, ◌∙◌}
use Rattle.alg_terms.specs.declared.sorts.Sort.{Sort}
use Rattle.alg_terms.specs.declared.symbols.Sym.{Sym}
use Rattle.alg_terms.specs.Tree.{Tree, Lit, App, Nil, Cons, of_list, sort_of_tree}
use Rattle.alg_expr.specs.declared.ids.ExprId.{ExprId}
use Rattle.alg_expr.specs.Ids.{tree_of, trees_at, IsIn}
use Rattle.alg_expr.specs.Arena.{GrowsBy, Imports}
use Rattle.alg_expr.proofs.ArenaLaws.{GrowsBy-Extends, tree_of-extends}
use Rattle.alg_kernel.proofs.TreeLemmas.{grow-two}

module _ (old mid new : List Tree) (f : Sym) (of : Sort) (n : ℕ) (e l x : ExprId) (s : Sort) (here : IsIn old e) (sort : s ≡ sort_of_tree (tree_of old e)) (g : GrowsBy old mid l (Lit of n)) where
  kept : tree_of mid e ≡ tree_of old e
  kept = tree_of-extends old mid e (GrowsBy-Extends _ _ _ _ g) here

  pub first-made : GrowsBy mid new x (App f s (of_list (trees_at mid (l ∷ e ∷ [])))) → Imports old new x (App f (sort_of_tree (tree_of old e)) (Cons (Lit of n) (Cons (tree_of old e) Nil)))
  first-made h = record { keeps = grow-two g h; here = h.here; tree = h.tree ∙ (λ i. App f (sort i) (Cons (g.tree i) (Cons (kept i) Nil))) }

  pub last-made : GrowsBy mid new x (App f s (of_list (trees_at mid (e ∷ l ∷ [])))) → Imports old new x (App f (sort_of_tree (tree_of old e)) (Cons (tree_of old e) (Cons (Lit of n) Nil)))
  last-made h = record { keeps = grow-two g h; here = h.here; tree = h.tree ∙ (λ i. App f (sort i) (Cons (kept i) (Cons (g.tree i) Nil))) }

pub negative-made : (old mid new : List Tree) (f : Sym) (s : Sort) (n : ℕ) (l x : ExprId) → GrowsBy old mid l (Lit s n) → GrowsBy mid new x (App f s (of_list (trees_at mid (l ∷ [])))) → Imports old new x (App f s (Cons (Lit s n) Nil))
negative-made old mid new f s n l x g h = record { keeps = grow-two g h; here = h.here; tree = h.tree ∙ (λ i. App f s (Cons (g.tree i) Nil)) }
