-- Trees of an arena that grows.
use Rattle.std.proofs.Common.{◌≡◌, ℕ, List, [], ◌∷◌, refl, ap, ◌∙◌, subst, arith, All, Bool, true, false, nat_eq}
use Rattle.std.proofs.lemmas.Bool.Decides.{nat_tests}
use Rattle.std.proofs.lemmas.List.Elements.{All-head, All-tail}
use Rattle.alg_terms.specs.declared.sorts.Sort.{Sort}
use Rattle.alg_terms.specs.declared.symbols.Sym.{Sym}
use Rattle.alg_terms.specs.declared.relations.Rel.TheVariants.{Eq}
use Rattle.alg_terms.specs.Tree.{Tree, Lit, App, Nil, Cons, of_list, sort_of_tree, equal}
use Rattle.alg_terms.specs.Order.{tree_same}
use Rattle.alg_terms.proofs.OrderLaws.{tree_same-equal, tree_same-self}
use Rattle.alg_expr.specs.declared.ids.ExprId.{ExprId}
use Rattle.alg_expr.specs.Ids.{tree_of, trees_at, IsIn, statement_of}
use Rattle.alg_expr.specs.Arena.{Extends, GrowsBy}
use Rattle.alg_expr.proofs.ArenaLaws.{Extends-then, GrowsBy-Extends, tree_of-extends, IsIn-extends}
use Rattle.alg_expr.specs.Applying.{sorts_at}
use Rattle.alg_expr.specs.Distinct.{AreDistinct}
use Rattle.alg_expr.proofs.DistinctLaws.{same_id-from_tree}

-- ids tell the trees apart
pub same-by-number : (ts : List Tree) (a b : ExprId) → AreDistinct ts → IsIn ts a → IsIn ts b → nat_eq a.index b.index ≡ tree_same (tree_of ts a) (tree_of ts b)
same-by-number ts a b d p q = by-test (tree_same (tree_of ts a) (tree_of ts b)) refl
  where
    by-test : (t : Bool) → tree_same (tree_of ts a) (tree_of ts b) ≡ t → nat_eq a.index b.index ≡ t
    by-test true e =
        let i : a ≡ b = same_id-from_tree ts a b d p q (tree_same-equal (tree_of ts a) (tree_of ts b) e) in
        let n : a.index ≡ b.index = ap (λ (x : ExprId). x.index) i in
        grind (arith, nat_tests)
    by-test false e = not-same (nat_eq a.index b.index) refl
      where
        not-same : (t : Bool) → nat_eq a.index b.index ≡ t → nat_eq a.index b.index ≡ false
        not-same false f = f
        not-same true f =
            let n : a.index ≡ b.index = grind (arith, nat_tests) in
            let i : a ≡ b = λ j. record { index = n j } in
            let s : tree_same (tree_of ts a) (tree_of ts b) ≡ true = subst (λ (x : ExprId). tree_same (tree_of ts a) (tree_of ts x) ≡ true) i (tree_same-self (tree_of ts a)) in
            cc

-- two and three steps of growth
pub grow-two : {a b c : List Tree} {e f : ExprId} {t u : Tree} → GrowsBy a b e t → GrowsBy b c f u → Extends a c
grow-two g h = Extends-then _ _ _ (GrowsBy-Extends _ _ _ _ g) (GrowsBy-Extends _ _ _ _ h)

pub grow-three : {a b c d : List Tree} {e f k : ExprId} {t u v : Tree} → GrowsBy a b e t → GrowsBy b c f u → GrowsBy c d k v → Extends a d
grow-three g h i = Extends-then _ _ _ (grow-two g h) (GrowsBy-Extends _ _ _ _ i)

pub grow-four : {a b c d l : List Tree} {e f k m : ExprId} {t u v w : Tree} → GrowsBy a b e t → GrowsBy b c f u → GrowsBy c d k v → GrowsBy d l m w → Extends a l
grow-four g h i j = Extends-then _ _ _ (grow-three g h i) (GrowsBy-Extends _ _ _ _ j)

-- a tree that was added stays
later : {a b c : List Tree} {e f : ExprId} {t u : Tree} → GrowsBy a b e t → GrowsBy b c f u → tree_of c e ≡ t
later g h = tree_of-extends _ _ _ (GrowsBy-Extends _ _ _ _ h) g.here ∙ g.tree

-- the equation of a symbol over two literals with a third
pub literal-equation : (f : Sym) (s : Sort) (m n k : ℕ) {t0 t1 t2 t3 t4 : List Tree} {a b w v : ExprId} → GrowsBy t0 t1 a (Lit s m) → GrowsBy t1 t2 b (Lit s n) → GrowsBy t2 t3 w (App f s (of_list (trees_at t2 (a ∷ b ∷ [])))) → GrowsBy t3 t4 v (Lit s k)
    → statement_of t4 (record { rel = Eq; sort = sort_of_tree (tree_of t4 w); lhs = w; rhs = v }) ≡ equal (App f s (Cons (Lit s m) (Cons (Lit s n) Nil))) (Lit s k)
literal-equation f s m n k {t2 = t2} {t4 = t4} {a = a} {b = b} {w = w} {v = v} g h i j =
    let left : tree_of t2 a ≡ Lit s m = later g h in
    let right : tree_of t2 b ≡ Lit s n = h.tree in
    let whole : tree_of t4 w ≡ App f s (of_list (trees_at t2 (a ∷ b ∷ []))) = later i j in
    let over : App f s (of_list (trees_at t2 (a ∷ b ∷ []))) ≡ App f s (Cons (Lit s m) (Cons (Lit s n) Nil)) = λ q. App f s (Cons (left q) (Cons (right q) Nil)) in
    let both : tree_of t4 w ≡ App f s (Cons (Lit s m) (Cons (Lit s n) Nil)) = whole ∙ over in
    λ q. record { rel = Eq; sort = sort_of_tree (both q); lhs = both q; rhs = j.tree q }

-- trees and sorts of ids stay
pub All-IsIn-extends : (old new : List Tree) (es : List ExprId) → Extends old new → All (IsIn old) es → All (IsIn new) es
All-IsIn-extends old new es x h = λ k d l. IsIn-extends old new _ x (h k d l)

pub trees_at-extends : (old new : List Tree) (es : List ExprId) → Extends old new → All (IsIn old) es → trees_at new es ≡ trees_at old es
trees_at-extends old new [] x h = refl
trees_at-extends old new (e ∷ es) x h =
    let p : tree_of new e ≡ tree_of old e = tree_of-extends old new e x (All-head (IsIn old) e es h) in
    let q : trees_at new es ≡ trees_at old es = trees_at-extends old new es x (All-tail (IsIn old) e es h) in
    λ i. p i ∷ q i

pub sorts_at-extends : (old new : List Tree) (es : List ExprId) → Extends old new → All (IsIn old) es → sorts_at new es ≡ sorts_at old es
sorts_at-extends old new [] x h = refl
sorts_at-extends old new (e ∷ es) x h =
    let p : tree_of new e ≡ tree_of old e = tree_of-extends old new e x (All-head (IsIn old) e es h) in
    let q : sorts_at new es ≡ sorts_at old es = sorts_at-extends old new es x (All-tail (IsIn old) e es h) in
    λ i. sort_of_tree (p i) ∷ q i

-- the equation of a symbol over trees with the same symbol over others
pub both-equation : (f : Sym) (s : Sort) (es fs : List ExprId) {t0 t1 t2 : List Tree} {a b : ExprId} → All (IsIn t0) fs → GrowsBy t0 t1 a (App f s (of_list (trees_at t0 es))) → GrowsBy t1 t2 b (App f s (of_list (trees_at t1 fs)))
    → statement_of t2 (record { rel = Eq; sort = sort_of_tree (tree_of t2 a); lhs = a; rhs = b }) ≡ equal (App f s (of_list (trees_at t0 es))) (App f s (of_list (trees_at t0 fs)))
both-equation f s es fs {t0 = t0} {t1 = t1} {t2 = t2} {a = a} {b = b} k g h =
    let left : tree_of t2 a ≡ App f s (of_list (trees_at t0 es)) = later g h in
    let same : trees_at t1 fs ≡ trees_at t0 fs = trees_at-extends t0 t1 fs (GrowsBy-Extends _ _ _ _ g) k in
    let right : tree_of t2 b ≡ App f s (of_list (trees_at t0 fs)) = h.tree ∙ ap (λ ts. App f s (of_list ts)) same in
    λ q. record { rel = Eq; sort = sort_of_tree (left q); lhs = left q; rhs = right q }
