-- The trees of a list of nodes: what a push adds, and what stands at an index.
use Rattle.std.proofs.Common.{◌≡◌, ℕ, zero, suc, ◌+◌, ◌<◌, List, [], ◌∷◌, ◌++◌, length, get_or, refl, ap, sym, ◌∙◌, subst, arith, append_assoc, append-nil, length-append, add-zero, zero-add, false}
use Rattle.std.proofs.Math.ListN.{get_or-append}
use Rattle.std.proofs.Math.Seq.{get_or-append_seam}
use Rattle.alg_syntax.specs.declared.nodes.Node.{Node}
use Rattle.alg_syntax.specs.declared.nodes.Node.TheVariants as node
use Rattle.alg_syntax.specs.Expressions.{Tree, number, group, ascribed, minus, inverse, binary, apply}
use Rattle.alg_syntax.specs.Nodes.{tree_at, tree_of, trees_after, trees_of, IsBelow, AllBelow_from, AllBelow, Grows}

pub trees_after-push : (ts : List Tree) (ns : List Node) (n : Node) → trees_after ts (ns ++ n ∷ []) ≡ trees_after ts ns ++ tree_of (trees_after ts ns) n ∷ []
trees_after-push ts [] n = refl
trees_after-push ts (m ∷ ns) n = trees_after-push (ts ++ tree_of ts m ∷ []) ns n

pub trees_after-extends : (ts : List Tree) (ns : List Node) → Grows ts (trees_after ts ns)
trees_after-extends ts [] = ([], sym (append-nil ts))
trees_after-extends ts (n ∷ ns) =
    let h = trees_after-extends (ts ++ tree_of ts n ∷ []) ns in
    (tree_of ts n ∷ h.0, h.1 ∙ append_assoc ts (tree_of ts n ∷ []) h.0)

pub length-trees_after : (ts : List Tree) (ns : List Node) → length (trees_after ts ns) ≡ length ts + length ns
length-trees_after ts [] = omega arith
length-trees_after ts (n ∷ ns) =
    omega (arith, length-trees_after (ts ++ tree_of ts n ∷ []) ns, length-append ts (tree_of ts n ∷ []))

pub length-trees_of : (ns : List Node) → length (trees_of ns) ≡ length ns
length-trees_of ns = omega (arith, length-trees_after [] ns)

pub at_append : (ts more : List Tree) (i : ℕ) → i < length ts → tree_at (ts ++ more) i ≡ tree_at ts i
at_append ts more i l = get_or-append ts more (number false 0) i l

pub tree_of-extends : (ts more : List Tree) (n : Node) → IsBelow (length ts) n → tree_of (ts ++ more) n ≡ tree_of ts n
tree_of-extends ts more (node.Number f v) h = refl
tree_of-extends ts more (node.Name n) h = refl
tree_of-extends ts more (node.Group f a) h = ap (group f) (at_append ts more a h)
tree_of-extends ts more (node.Ascribed f a sort) h = ap (λ t. ascribed f t sort) (at_append ts more a h)
tree_of-extends ts more (node.Minus a) h = ap minus (at_append ts more a h)
tree_of-extends ts more (node.Inverse a) h = ap inverse (at_append ts more a h)
tree_of-extends ts more (node.Binary o a b) h = λ i. binary o (at_append ts more a h.0 i) (at_append ts more b h.1 i)
tree_of-extends ts more (node.Apply a b) h = λ i. apply (at_append ts more a h.0 i) (at_append ts more b h.1 i)

pub get_or-trees_after : (ts : List Tree) (ns : List Node) (i : ℕ) (d : Node) → AllBelow_from (length ts) ns → i < length ns → tree_at (trees_after ts ns) (length ts + i) ≡ tree_of (trees_after ts ns) (get_or ns i d)
get_or-trees_after ts [] i d h l = absurd (omega arith)
get_or-trees_after ts (n ∷ ns) zero d h l =
    let x = trees_after-extends (ts ++ tree_of ts n ∷ []) ns in
    let e : trees_after ts (n ∷ ns) ≡ ts ++ (tree_of ts n ∷ x.0) = x.1 ∙ append_assoc ts (tree_of ts n ∷ []) x.0 in
    rw (e, add-zero, get_or-append_seam) (sym (tree_of-extends ts (tree_of ts n ∷ x.0) n h.0))
get_or-trees_after ts (n ∷ ns) (suc i) d h l =
    let k : length (ts ++ tree_of ts n ∷ []) ≡ suc (length ts) = omega (arith, length-append ts (tree_of ts n ∷ [])) in
    let m : length ts + suc i ≡ length (ts ++ tree_of ts n ∷ []) + i = omega arith in
    rw m (get_or-trees_after (ts ++ tree_of ts n ∷ []) ns i d (rw k h.1) (omega arith))

pub get_or-trees_of : (ns : List Node) (i : ℕ) (d : Node) → AllBelow ns → i < length ns → tree_at (trees_of ns) i ≡ tree_of (trees_of ns) (get_or ns i d)
get_or-trees_of ns i d h l = rw (zero-add) at (get_or-trees_after [] ns i d h l)

pub AllBelow_from-push : (k : ℕ) (ns : List Node) (n : Node) → AllBelow_from k ns → IsBelow (k + length ns) n → AllBelow_from k (ns ++ n ∷ [])
AllBelow_from-push k [] n h l = (rw add-zero at l, tt)
AllBelow_from-push k (m ∷ ns) n h l = (h.0, AllBelow_from-push (suc k) ns n h.1 (let e : suc k + length ns ≡ k + suc (length ns) = omega arith in rw e l))

pub AllBelow-push : (ns : List Node) (n : Node) → AllBelow ns → IsBelow (length ns) n → AllBelow (ns ++ n ∷ [])
AllBelow-push ns n h l = AllBelow_from-push 0 ns n h (rw zero-add l)

pub AllBelow_from-get_or : (k : ℕ) (ns : List Node) (i : ℕ) (d : Node) → AllBelow_from k ns → i < length ns → IsBelow (k + i) (get_or ns i d)
AllBelow_from-get_or k [] i d h l = absurd (omega arith)
AllBelow_from-get_or k (n ∷ ns) zero d h l = rw add-zero h.0
AllBelow_from-get_or k (n ∷ ns) (suc i) d h l = let e : k + suc i ≡ suc k + i = omega arith in rw e (AllBelow_from-get_or (suc k) ns i d h.1 (omega arith))

pub AllBelow-get_or : (ns : List Node) (i : ℕ) (d : Node) → AllBelow ns → i < length ns → IsBelow i (get_or ns i d)
AllBelow-get_or ns i d h l = rw zero-add at (AllBelow_from-get_or 0 ns i d h l)

-- what a push adds
pub push_grows : (ns : List Node) (n : Node) (ts : List Tree) → trees_of ns ≡ ts → trees_of (ns ++ n ∷ []) ≡ ts ++ tree_of ts n ∷ []
push_grows ns n ts same = trees_after-push [] ns n ∙ ap (λ xs. xs ++ tree_of xs n ∷ []) same

-- the tree at a number is that of the node there, whose parts come before it
pub node_at : (ns : List Node) (ts : List Tree) (i : ℕ) (n : Node) → trees_of ns ≡ ts → AllBelow ns → i < length ts → n ≡ get_or ns i n → (tree_at ts i ≡ tree_of ts n) × IsBelow i n
node_at ns ts i n same below is_in at =
    let l : i < length ns = omega (arith, ap length same, length-trees_of ns) in (
      ap (λ xs. tree_at xs i) (sym same) ∙ (get_or-trees_of ns i n below l ∙ (ap (λ m. tree_of (trees_of ns) m) (sym at) ∙ ap (λ xs. tree_of xs n) same)),
      subst (λ (m : Node). IsBelow i m) (sym at) (AllBelow-get_or ns i n below l),
    )
