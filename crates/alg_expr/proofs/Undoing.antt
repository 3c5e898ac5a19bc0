-- An arena that is cut back to what it was.
use Rattle.std.proofs.Common.{◌≡◌, ℕ, suc, ◌<◌, ◌≤◌, List, [], ◌∷◌, ◌++◌, length, take, drop, map, refl, ap, sym, ◌∙◌, subst, arith, length-append, All}
use Rattle.std.proofs.Math.Seq.{take-append_seam}
use Rattle.std.proofs.Math.ListN.{get_or-append}
use Rattle.std.proofs.lemmas.List.{map-append, take-append-drop, length-take, length-map}
use Rattle.std.proofs.lemmas.Map.Entries.{length-keys_of, length-values_of}
use Rattle.std.specs.Map.{keys_of, values_of}
use Rattle.alg_terms.specs.Tree.{Tree}
use Rattle.alg_expr.specs.declared.nodes.Node.{Node}
use Rattle.alg_expr.specs.Arena.{Extends}
use Rattle.alg_expr.specs.Sizes.{size_of}
use Rattle.alg_expr.specs.Distinct.{AreDistinct}
use Rattle.alg_expr.specs.Nodes.{tree_at, trees_after, trees_of, AllBelow_from, AllBelow, IsSound, IsSmall}
use Rattle.alg_expr.proofs.NodeLemmas.{trees_after-extends, length-trees_of}

trees_after-append : (ts : List Tree) (ns ms : List Node) → trees_after ts (ns ++ ms) ≡ trees_after (trees_after ts ns) ms
trees_after-append ts [] ms = refl
trees_after-append ts (n ∷ ns) ms = trees_after-append (ts ++ tree_at ts n ∷ []) ns ms

Extends-append : (ns ms : List Node) → Extends (trees_of ns) (trees_of (ns ++ ms))
Extends-append ns ms = let x = trees_after-extends (trees_of ns) ms in (x.0, trees_after-append [] ns ms ∙ x.1)

AllBelow_from-prefix : (k : ℕ) (ns ms : List Node) → AllBelow_from k (ns ++ ms) → AllBelow_from k ns
AllBelow_from-prefix k [] ms h = tt
AllBelow_from-prefix k (n ∷ ns) ms h = (h.0, AllBelow_from-prefix (suc k) ns ms h.1)

AreDistinct-prefix : (ts us : List Tree) → AreDistinct (ts ++ us) → AreDistinct ts
AreDistinct-prefix ts us h i j d l m e =
    let li : i < length ts = omega arith in
    h i j d l (omega (arith, length-append ts us)) (get_or-append ts us d i li ∙ e ∙ sym (get_or-append ts us d j m))

-- equal lists whose first parts are as long have equal first parts
first_parts : {X : Type 0} → (xs ys us vs : List X) → xs ++ us ≡ ys ++ vs → length xs ≡ length ys → xs ≡ ys
first_parts xs ys us vs e l = sym (take-append_seam xs us) ∙ ap (take (length xs)) e ∙ ap (λ n. take n (ys ++ vs)) l ∙ take-append_seam ys vs

keys_of-append : (a b : List (Node × ℕ)) → keys_of (a ++ b) ≡ keys_of a ++ keys_of b
keys_of-append a b = map-append (λ (e : Node × ℕ). e.0) a b

values_of-append : (a b : List (Node × ℕ)) → values_of (a ++ b) ≡ values_of a ++ values_of b
values_of-append a b = map-append (λ (e : Node × ℕ). e.1) a b

IsSound-prefix : (a b : List (Node × ℕ)) → IsSound (a ++ b) → IsSound a
IsSound-prefix a b h =
    let x = Extends-append (keys_of a) (keys_of b) in
    let ts = trees_of (keys_of a) in
    let all : trees_of (keys_of (a ++ b)) ≡ ts ++ x.0 = ap trees_of (keys_of-append a b) ∙ x.1 in
    let sizes : values_of a ++ values_of b ≡ map size_of ts ++ map size_of x.0 = sym (values_of-append a b) ∙ h.sizes ∙ ap (map size_of) all ∙ map-append size_of ts x.0 in
    record {
      below = AllBelow_from-prefix 0 (keys_of a) (keys_of b) (subst AllBelow (keys_of-append a b) h.below);
      small = λ k d l.
          subst IsSmall (get_or-append (keys_of a) (keys_of b) d k l)
          ((subst (All IsSmall) (keys_of-append a b) h.small) k d (omega (arith, l, length-append (keys_of a) (keys_of b))));
      distinct = AreDistinct-prefix ts x.0 (subst AreDistinct all h.distinct);
      sizes = first_parts (values_of a) (map size_of ts) (values_of b) (map size_of x.0) sizes (omega (arith, length-values_of a, length-map ts size_of, length-trees_of (keys_of a), length-keys_of a));
    }

-- the first entries are sound, and their trees are the first trees
pub cut_back : (es : List (Node × ℕ)) (ts : List Tree) (n : ℕ) → trees_of (keys_of es) ≡ ts → n ≤ length ts → IsSound es
    → IsSound (take n es) × (trees_of (keys_of (take n es)) ≡ take n ts)
cut_back es ts n same within h =
    let parts : take n es ++ drop n es ≡ es = take-append-drop n es in
    let sound : IsSound (take n es) = IsSound-prefix (take n es) (drop n es) (subst IsSound (sym parts) h) in
    let first = trees_of (keys_of (take n es)) in
    let y = Extends-append (keys_of (take n es)) (keys_of (drop n es)) in
    let both : first ++ y.0 ≡ ts =
    sym y.1 ∙ ap trees_of (sym (keys_of-append (take n es) (drop n es))) ∙ ap (λ z. trees_of (keys_of z)) parts ∙ same in
    let l : length first ≡ n =
    omega (arith, length-trees_of (keys_of (take n es)), length-keys_of (take n es), length-take n es, within, ap length same, length-trees_of (keys_of es), length-keys_of es) in
    (sound, sym (take-append_seam first y.0) ∙ ap (take (length first)) both ∙ ap (λ k. take k ts) l)

-- an arena that only grew is cut back to what it was
pub take-extends : (old new : List Tree) (n : ℕ) → Extends old new → n ≡ length old → take n new ≡ old
take-extends old new n x at = ap (λ k. take k new) at ∙ ap (take (length old)) x.1 ∙ take-append_seam old x.0
