-- What the derived equality of nodes decides.
use Rattle.std.proofs.Common.{rules, ◌≡◌, Bool, true, ◌&&◌, List, [], ◌∷◌, length, refl, ap, sym, ◌∙◌}
use Rattle.std.proofs.lemmas.Bool.{and_parts}
use Rattle.std.specs.Cmp.Lexicographic.{pointwise}
use Rattle.alg_terms.specs.declared.sorts.Sort.{Sort}
use Rattle.alg_terms.specs.declared.symbols.Sym.{Sym}
use Rattle.alg_terms.specs.Tree.{Tree, of_list, to_list}
use Rattle.alg_terms.proofs.TreeLaws.{to_list-of_list}
use Rattle.alg_terms.specs.contracts.sorts.SortPartialEq.TheImpl as sort_eq
use Rattle.alg_terms.specs.contracts.symbols.SymPartialEq.TheImpl as sym_eq
use Rattle.alg_expr.specs.contracts.ids.ExprIdPartialEq.TheImpl as id_eq
use Rattle.alg_expr.specs.contracts.nodes.NodePartialEq.TheImpl as node_eq
use Rattle.alg_expr.specs.contracts.nodes.NodeEq.TheImpl.Laws.{laws-law}
use Rattle.alg_expr.specs.declared.ids.ExprId.{ExprId}
use Rattle.alg_expr.specs.declared.nodes.Node.{Node}
use Rattle.alg_expr.specs.declared.nodes.Node.TheVariants as node
use Rattle.alg_expr.specs.Ids.{trees_at}
use Rattle.alg_expr.specs.Distinct.{AreDistinct}
use Rattle.alg_expr.proofs.DistinctLaws.{same_ids-from_trees}
use Rattle.alg_expr.specs.Nodes.{tree_at, IsBelow}

abbrev pub same_node : Node → Node → Bool
same_node = (node_eq.ghosts).eq

same_sort : (s t : Sort) → (sort_eq.ghosts).eq s t ≡ true → s ≡ t
same_sort s t e = search rules

same_sym : (f g : Sym) → (sym_eq.ghosts).eq f g ≡ true → f ≡ g
same_sym f g e = search rules

same_id : (a b : ExprId) → (id_eq.ghosts).eq a b ≡ true → a ≡ b
same_id a b e = search rules

same_ids : (xs ys : List ExprId) → pointwise (id_eq.ghosts).eq xs ys ≡ true → xs ≡ ys
same_ids [] [] e = refl
same_ids [] (y ∷ ys) e = cc
same_ids (x ∷ xs) [] e = cc
same_ids (x ∷ xs) (y ∷ ys) e =
    let h = and_parts ((id_eq.ghosts).eq x y) (pointwise (id_eq.ghosts).eq xs ys) e in
    let p : x ≡ y = same_id x y h.0 in
    let q : xs ≡ ys = same_ids xs ys h.1 in
    cc

-- equal nodes stand for one tree
pub same_tree : (ts : List Tree) (n k : Node) → same_node n k ≡ true → tree_at ts n ≡ tree_at ts k
same_tree ts (node.Lit s v) (node.Lit t w) e =
    let h = and_parts ((sort_eq.ghosts).eq s t) _ e in
    let p : s ≡ t = same_sort s t h.0 in
    let q : v ≡ w = search rules in
    cc
same_tree ts (node.Lit s v) (node.Var d t) e = cc
same_tree ts (node.Lit s v) (node.App g t ys) e = cc
same_tree ts (node.Var d s) (node.Lit t w) e = cc
same_tree ts (node.Var c s) (node.Var d t) e =
    let h = and_parts _ ((sort_eq.ghosts).eq s t) e in
    let p : s ≡ t = same_sort s t h.1 in
    let q : c ≡ d = search rules in
    cc
same_tree ts (node.Var d s) (node.App g t ys) e = cc
same_tree ts (node.App f s xs) (node.Lit t w) e = cc
same_tree ts (node.App f s xs) (node.Var d t) e = cc
same_tree ts (node.App f s xs) (node.App g t ys) e =
    let h = and_parts ((sym_eq.ghosts).eq f g) ((sort_eq.ghosts).eq s t && pointwise (id_eq.ghosts).eq xs.items ys.items) e in
    let k = and_parts ((sort_eq.ghosts).eq s t) (pointwise (id_eq.ghosts).eq xs.items ys.items) h.1 in
    let p : f ≡ g = same_sym f g h.0 in
    let q : s ≡ t = same_sort s t k.0 in
    let r : xs.items ≡ ys.items = same_ids xs.items ys.items k.1 in
    cc

of_list-inj : (xs ys : List Tree) → of_list xs ≡ of_list ys → xs ≡ ys
of_list-inj xs ys e = sym (to_list-of_list xs) ∙ ap to_list e ∙ to_list-of_list ys

-- and nodes of one tree are equal, where no tree stands twice
pub same_node-from_tree : (ts : List Tree) (n k : Node) → AreDistinct ts → IsBelow (length ts) n → IsBelow (length ts) k → tree_at ts n ≡ tree_at ts k → same_node n k ≡ true
same_node-from_tree ts (node.Lit s v) (node.Lit t w) d h k e =
    let p : s ≡ t = cc in
    let q : v ≡ w = cc in
    rw (p, q) (laws-law.refl (node.Lit t w))
same_node-from_tree ts (node.Lit s v) (node.Var c t) d h k e = cc
same_node-from_tree ts (node.Lit s v) (node.App g t ys) d h k e = cc
same_node-from_tree ts (node.Var c s) (node.Lit t w) d h k e = cc
same_node-from_tree ts (node.Var b s) (node.Var c t) d h k e =
    let p : s ≡ t = cc in
    let q : b ≡ c = cc in
    rw (p, q) (laws-law.refl (node.Var c t))
same_node-from_tree ts (node.Var c s) (node.App g t ys) d h k e = cc
same_node-from_tree ts (node.App f s xs) (node.Lit t w) d h k e = cc
same_node-from_tree ts (node.App f s xs) (node.Var c t) d h k e = cc
same_node-from_tree ts (node.App f s xs) (node.App g t ys) d h k e =
    let p : f ≡ g = cc in
    let q : s ≡ t = cc in
    let r : of_list (trees_at ts xs.items) ≡ of_list (trees_at ts ys.items) = cc in
    let i : xs.items ≡ ys.items = same_ids-from_trees ts xs.items ys.items d h k (of_list-inj _ _ r) in
    rw (p, q, i) (laws-law.refl (node.App g t ys))
