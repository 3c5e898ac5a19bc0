-- The trees of a list of nodes: what a push adds, and what stands at an index.
use Rattle.std.proofs.Common.{◌≡◌, ℕ, zero, suc, ◌+◌, ◌<◌, ◌≤◌, List, [], ◌∷◌, ◌++◌, length, get_or, refl, ap, sym, ◌∙◌, subst, arith, All, append_assoc, append-nil, length-append, add-zero, zero-add}
use Rattle.std.proofs.Math.ListN.{get_or-append}
use Rattle.std.proofs.Math.Seq.{get_or-append_seam}
use Rattle.std.proofs.lemmas.List.Elements.{All-head, All-tail}
use Rattle.alg_terms.specs.declared.sorts.Sort.TheVariants.{Nat}
use Rattle.alg_terms.specs.Tree.{Tree, Lit, App, of_list}
use Rattle.alg_terms.specs.Order.{trees_cmp}
use Rattle.std.proofs.Common.{Less, Greater}
use Rattle.alg_expr.specs.declared.ids.ExprId.{ExprId}
use Rattle.alg_expr.specs.declared.nodes.Node.{Node}
use Rattle.alg_expr.specs.declared.nodes.Node.TheVariants as node
use Rattle.alg_expr.specs.Ids.{tree_of, trees_at, IsIn}
use Rattle.alg_expr.specs.Arena.{Extends}
use Rattle.alg_expr.specs.Nodes.{tree_at, trees_after, trees_of, IsBelow, AllBelow_from, AllBelow}

pub trees_after-push : (ts : List Tree) (ns : List Node) (n : Node) → trees_after ts (ns ++ n ∷ []) ≡ trees_after ts ns ++ tree_at (trees_after ts ns) n ∷ []
trees_after-push ts [] n = refl
trees_after-push ts (m ∷ ns) n = trees_after-push (ts ++ tree_at ts m ∷ []) ns n

pub trees_of-push : (ns : List Node) (n : Node) → trees_of (ns ++ n ∷ []) ≡ trees_of ns ++ tree_at (trees_of ns) n ∷ []
trees_of-push ns n = trees_after-push [] ns n

-- what comes after keeps the trees so far
pub trees_after-extends : (ts : List Tree) (ns : List Node) → Extends ts (trees_after ts ns)
trees_after-extends ts [] = ([], sym (append-nil ts))
trees_after-extends ts (n ∷ ns) =
    let h = trees_after-extends (ts ++ tree_at ts n ∷ []) ns in
    (tree_at ts n ∷ h.0, h.1 ∙ append_assoc ts (tree_at ts n ∷ []) h.0)

pub length-trees_after : (ts : List Tree) (ns : List Node) → length (trees_after ts ns) ≡ length ts + length ns
length-trees_after ts [] = omega arith
length-trees_after ts (n ∷ ns) =
    omega (arith, length-trees_after (ts ++ tree_at ts n ∷ []) ns, length-append ts (tree_at ts n ∷ []))

pub length-trees_of : (ns : List Node) → length (trees_of ns) ≡ length ns
length-trees_of ns = omega (arith, length-trees_after [] ns)

-- ids that are there keep their trees
pub trees_at-extends : (ts more : List Tree) (es : List ExprId) → All (λ e. e.index < length ts) es → trees_at (ts ++ more) es ≡ trees_at ts es
trees_at-extends ts more [] h = refl
trees_at-extends ts more (e ∷ es) h =
    let here : get_or (ts ++ more) e.index (Lit Nat 0) ≡ get_or ts e.index (Lit Nat 0) = get_or-append ts more (Lit Nat 0) e.index (All-head (λ x. x.index < length ts) e es h) in
    let rest : trees_at (ts ++ more) es ≡ trees_at ts es = trees_at-extends ts more es (All-tail (λ x. x.index < length ts) e es h) in
    cc

pub tree_at-extends : (ts more : List Tree) (n : Node) → IsBelow (length ts) n → tree_at (ts ++ more) n ≡ tree_at ts n
tree_at-extends ts more (node.Lit s v) h = refl
tree_at-extends ts more (node.Var d s) h = refl
tree_at-extends ts more (node.App f s args) h = ap (λ xs. App f s (of_list xs)) (trees_at-extends ts more args.items h)

-- the tree at an index is that of the node there
pub get_or-trees_after : (ts : List Tree) (ns : List Node) (i : ℕ) (d : Node) → AllBelow_from (length ts) ns → i < length ns → get_or (trees_after ts ns) (length ts + i) (Lit Nat 0) ≡ tree_at (trees_after ts ns) (get_or ns i d)
get_or-trees_after ts [] i d h l = absurd (omega arith)
get_or-trees_after ts (n ∷ ns) zero d h l =
    let x = trees_after-extends (ts ++ tree_at ts n ∷ []) ns in
    let e : trees_after ts (n ∷ ns) ≡ ts ++ (tree_at ts n ∷ x.0) = x.1 ∙ append_assoc ts (tree_at ts n ∷ []) x.0 in
    rw (e, add-zero, get_or-append_seam) (sym (tree_at-extends ts (tree_at ts n ∷ x.0) n h.0))
get_or-trees_after ts (n ∷ ns) (suc i) d h l =
    let k : length (ts ++ tree_at ts n ∷ []) ≡ suc (length ts) = omega (arith, length-append ts (tree_at ts n ∷ [])) in
    let m : length ts + suc i ≡ length (ts ++ tree_at ts n ∷ []) + i = omega arith in
    rw m (get_or-trees_after (ts ++ tree_at ts n ∷ []) ns i d (rw k h.1) (omega arith))

pub get_or-trees_of : (ns : List Node) (i : ℕ) (d : Node) → AllBelow ns → i < length ns → get_or (trees_of ns) i (Lit Nat 0) ≡ tree_at (trees_of ns) (get_or ns i d)
get_or-trees_of ns i d h l = rw (zero-add) at (get_or-trees_after [] ns i d h l)

pub AllBelow_from-push : (k : ℕ) (ns : List Node) (n : Node) → AllBelow_from k ns → IsBelow (k + length ns) n → AllBelow_from k (ns ++ n ∷ [])
AllBelow_from-push k [] n h l = (rw add-zero at l, tt)
AllBelow_from-push k (m ∷ ns) n h l = (h.0, AllBelow_from-push (suc k) ns n h.1 (let e : suc k + length ns ≡ k + suc (length ns) = omega arith in rw e l))

pub AllBelow-push : (ns : List Node) (n : Node) → AllBelow ns → IsBelow (length ns) n → AllBelow (ns ++ n ∷ [])
AllBelow-push ns n h l = AllBelow_from-push 0 ns n h (rw zero-add l)

pub AllBelow_from-get_or : (k : ℕ) (ns : List Node) (i : ℕ) (d : Node) → AllBelow_from k ns → i < length ns → IsBelow (k + i) (get_or ns i d)
AllBelow_from-get_or k [] i d h l = absurd (omega arith)
AllBelow_from-get_or k (n ∷ ns) zero d h l = rw add-zero h.0
AllBelow_from-get_or k (n ∷ ns) (suc i) d h l = let e : k + suc i ≡ suc k + i = omega arith in rw e (AllBelow_from-get_or (suc k) ns i d h.1 (omega arith))

pub AllBelow-get_or : (ns : List Node) (i : ℕ) (d : Node) → AllBelow ns → i < length ns → IsBelow i (get_or ns i d)
AllBelow-get_or ns i d h l = rw zero-add at (AllBelow_from-get_or 0 ns i d h l)

-- ids of the trees are ids of the nodes
pub nodes_hold : (ns : List Node) (ts : List Tree) → trees_of ns ≡ ts → (es : List ExprId) → All (IsIn ts) es → All (λ e. e.index < length ns) es
nodes_hold ns ts same es h = λ k d l. omega (arith, h k d l, ap length same, length-trees_of ns)

-- the tree of an id is that of the node there
pub tree_of-node : (ns : List Node) (ts : List Tree) (e : ExprId) (n : Node) → trees_of ns ≡ ts → AllBelow ns → IsIn ts e → n ≡ get_or ns e.index n → tree_of ts e ≡ tree_at ts n
tree_of-node ns ts e n same below is_in at =
    let l : e.index < length ns = omega (arith, ap length same, length-trees_of ns) in
    rw (← same, get_or-trees_of ns e.index n below l) (ap (tree_at (trees_of ns)) (sym at))

-- the parts of a node come before it
pub parts_below : (ns : List Node) (ts : List Tree) (e : ExprId) (n : Node) → trees_of ns ≡ ts → AllBelow ns → IsIn ts e → n ≡ get_or ns e.index n → IsBelow e.index n
parts_below ns ts e n same below is_in at =
    let l : e.index < length ns = omega (arith, ap length same, length-trees_of ns) in
    subst (λ (m : Node). IsBelow e.index m) (sym at) (AllBelow-get_or ns e.index n below l)

-- a list that ends first comes first
pub trees_cmp-ends_left : (ts : List Tree) (xs ys : List ExprId) → length xs ≡ 0 → 0 < length ys → Less ≡ trees_cmp (of_list (trees_at ts xs)) (of_list (trees_at ts ys))
trees_cmp-ends_left ts [] [] e l = absurd (omega arith)
trees_cmp-ends_left ts [] (y ∷ ys) e l = refl
trees_cmp-ends_left ts (x ∷ xs) ys e l = absurd (omega arith)

pub trees_cmp-ends_right : (ts : List Tree) (xs ys : List ExprId) → 0 < length xs → length ys ≡ 0 → Greater ≡ trees_cmp (of_list (trees_at ts xs)) (of_list (trees_at ts ys))
trees_cmp-ends_right ts [] ys l e = absurd (omega arith)
trees_cmp-ends_right ts (x ∷ xs) [] l e = refl
trees_cmp-ends_right ts (x ∷ xs) (y ∷ ys) l e = absurd (omega arith)

pub IsBelow-le : (k m : ℕ) (n : Node) → k ≤ m → IsBelow k n → IsBelow m n
IsBelow-le k m (node.Lit s v) l h = tt
IsBelow-le k m (node.Var d s) l h = tt
IsBelow-le k m (node.App f s xs) l h = λ i d b. omega (arith, l, h i d b)
