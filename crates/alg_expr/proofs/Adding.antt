-- What an insertion adds.
use Rattle.std.proofs.Common.{◌≡◌, ℕ, ◌<◌, ◌+◌, suc, true, false, List, [], ◌∷◌, ◌++◌, length, get_or, take, map, position, Bool, if◌then◌else◌, Option, None, Some, refl, ap, sym, ◌∙◌, subst, arith, zero, add-one, length-append, true≢false, inl, inr, is_some, slice_get}
use Rattle.std.proofs.Math.Seq.{get_or-append_seam, take-suc}
use Rattle.std.proofs.lemmas.List.{map-append, get_or-map}
use Rattle.std.proofs.lemmas.List.Quantifiers.{position-Some, all_pairs_push}
use Rattle.std.proofs.lemmas.List.Folds.{list_any_at}
use Rattle.std.proofs.lemmas.List.Elements.{All-push}
use Rattle.std.proofs.lemmas.Option.{get_or_from_slice_get, slice_get_within}
use Rattle.std.proofs.lemmas.Map.Made.{is_some-lookup}
use Rattle.std.proofs.lemmas.Map.Entries.{length-keys_of}
use Rattle.std.specs.Map.{keys_of, values_of, lookup}
use Rattle.std.specs.List.{position_or_len}
use Rattle.indexmap.specs.IndexMap.{insert_entry}
use Rattle.indexmap.proofs.MapLemmas.{Found-position, Missing-position, some_index, insert_entry-absent}
use Rattle.alg_terms.specs.declared.sorts.Sort.TheVariants.{Nat}
use Rattle.alg_terms.specs.Tree.{Tree, Lit, of_list, node_count, node_counts}
use Rattle.alg_expr.specs.declared.ids.ExprId.{ExprId}
use Rattle.alg_expr.specs.declared.nodes.Node.{Node}
use Rattle.alg_expr.specs.Ids.{tree_of, IsIn, trees_at}
use Rattle.alg_expr.specs.Arena.{GrowsBy}
use Rattle.alg_expr.specs.Sizes.{size_of}
use Rattle.alg_expr.specs.Distinct.{Differ}
use Rattle.alg_expr.specs.Nodes.{tree_at, trees_of, IsBelow, IsSound, IsSmall}
use Rattle.alg_expr.proofs.NodeLemmas.{trees_of-push, length-trees_of, get_or-trees_of, tree_of-node, parts_below, AllBelow-push, AllBelow-get_or, IsBelow-le}
use Rattle.alg_expr.proofs.SameNode.{same_node, same_tree, same_node-from_tree}

keys_of-push : (es : List (Node × ℕ)) (n : Node) (s : ℕ) → keys_of (es ++ (n, s) ∷ []) ≡ keys_of es ++ n ∷ []
keys_of-push es n s = map-append (λ (e : Node × ℕ). e.0) es ((n, s) ∷ [])

values_of-push : (es : List (Node × ℕ)) (n : Node) (s : ℕ) → values_of (es ++ (n, s) ∷ []) ≡ values_of es ++ s ∷ []
values_of-push es n s = map-append (λ (e : Node × ℕ). e.1) es ((n, s) ∷ [])

-- a node that no key is equal to has a tree of its own
new_tree : (es : List (Node × ℕ)) (n : Node) → IsSound es → IsBelow (length (trees_of (keys_of es))) n → lookup (same_node n) es ≡ None
    → (k : ℕ) (d : Tree) → k < length (trees_of (keys_of es)) → Differ (get_or (trees_of (keys_of es)) k d) (tree_at (trees_of (keys_of es)) n)
new_tree es n sound below none k d l e =
    let ks = keys_of es in
    let ts = trees_of ks in
    let lengths : length ts ≡ length ks = length-trees_of ks in
    let lk : k < length ks = omega arith in
    let at : get_or ts k (Lit Nat 0) ≡ tree_at ts (get_or ks k n) = get_or-trees_of ks k n sound.below lk in
    let same_d : get_or ts k (Lit Nat 0) ≡ get_or ts k d = get_or-default ts k (Lit Nat 0) d l in
    let kb : IsBelow (length ts) (get_or ks k n) = IsBelow-le k (length ts) (get_or ks k n) (omega arith) (AllBelow-get_or ks k n sound.below lk) in
    let s : same_node n (get_or ks k n) ≡ true = same_node-from_tree ts n (get_or ks k n) sound.distinct below kb (sym e ∙ sym same_d ∙ at) in
    let any = list_any_at (same_node n) ks k n lk s in
    absurd (true≢false (sym any ∙ sym (is_some-lookup (same_node n) es) ∙ ap is_some none))
  where
    get_or-default : (ts : List Tree) (k : ℕ) (c d : Tree) → k < length ts → get_or ts k c ≡ get_or ts k d
    get_or-default [] k c d l = absurd (omega arith)
    get_or-default (t ∷ ts) zero c d l = refl
    get_or-default (t ∷ ts) (suc k) c d l = get_or-default ts k c d (omega arith)

IsSound-push : (es : List (Node × ℕ)) (n : Node) (s : ℕ) → IsSound es → IsBelow (length (trees_of (keys_of es))) n → s ≡ size_of (tree_at (trees_of (keys_of es)) n)
    → IsSmall n → lookup (same_node n) es ≡ None → IsSound (es ++ (n, s) ∷ [])
IsSound-push es n s sound below size small none =
    let ks = keys_of es in
    let ts = trees_of ks in
    let grown : trees_of (ks ++ n ∷ []) ≡ ts ++ tree_at ts n ∷ [] = trees_of-push ks n in
    let kp : keys_of (es ++ (n, s) ∷ []) ≡ ks ++ n ∷ [] = keys_of-push es n s in
    record {
      below = rw kp (AllBelow-push ks n sound.below (subst (λ m. IsBelow m n) (length-trees_of ks) below));
      small = rw kp (All-push IsSmall ks n sound.small small);
      distinct = rw (kp, grown) (all_pairs_push Differ ts (tree_at ts n) sound.distinct (new_tree es n sound below none));
      sizes = values_of-push es n s ∙ rw (kp, grown, map-append size_of ts (tree_at ts n ∷ []), sound.sizes, size) refl;
    }

grows-new : (es new : List (Node × ℕ)) (n : Node) (s i : ℕ) (ts : List Tree) → trees_of (keys_of es) ≡ ts → new ≡ es ++ (n, s) ∷ [] → i ≡ length es
    → GrowsBy ts (trees_of (keys_of new)) (record { index = i }) (tree_at ts n)
grows-new es new n s i ts same is at =
    let ks = keys_of es in
    let e : trees_of (keys_of new) ≡ ts ++ tree_at ts n ∷ [] =
    ap (λ x. trees_of (keys_of x)) is ∙ ap trees_of (keys_of-push es n s) ∙ trees_of-push ks n ∙ ap (λ us. us ++ tree_at us n ∷ []) same in
    let l : i ≡ length ts = omega (arith, ap length same, length-trees_of ks, length-keys_of es) in
    record {
      grown = inr e;
      here = omega (arith, ap length e, length-append ts (tree_at ts n ∷ []));
      tree = rw (e, l) (get_or-append_seam ts (tree_at ts n) [] (Lit Nat 0));
    }

grows-found : (es : List (Node × ℕ)) (n : Node) (i : ℕ) (ts : List Tree) → trees_of (keys_of es) ≡ ts → IsSound es → position (same_node n) (keys_of es) ≡ Some i
    → GrowsBy ts ts (record { index = i }) (tree_at ts n)
grows-found es n i ts same sound at =
    let ks = keys_of es in
    let h = position-Some (same_node n) ks i n at in
    record {
      grown = inl refl;
      here = omega (arith, h.0, ap length same, length-trees_of ks);
      tree = rw (← same) (get_or-trees_of ks i n sound.below h.0 ∙ sym (same_tree (trees_of ks) n (get_or ks i n) h.1));
    }

by_first : (b : Bool) (m : Node) (v s : ℕ) (es more : List (Node × ℕ)) → (b ≡ true → v ≡ s) → (b ≡ false → more ≡ es) → (if b then (m, s) ∷ es else (m, v) ∷ more) ≡ (m, v) ∷ es
by_first true m v s es more h k = ap (λ x. (m, x) ∷ es) (sym (h refl))
by_first false m v s es more h k = ap (λ xs. (m, v) ∷ xs) (k refl)

-- a node that is there with its size is written as it was
same_entries : (es : List (Node × ℕ)) (n : Node) (s : ℕ) (d : Node × ℕ) → ((k : ℕ) → k < length es → same_node n (get_or es k d).0 ≡ true → (get_or es k d).1 ≡ s)
    → is_some (lookup (same_node n) es) ≡ true → insert_entry same_node es n s ≡ es
same_entries [] n s d h t = cc
same_entries ((m, v) ∷ es) n s d h t =
    by_first (same_node n m) m v s es (insert_entry same_node es n s) (λ q. h 0 (omega arith) q)
    (λ q. same_entries es n s d (λ k l r. h (suc k) (omega (arith, l)) r) (rw q at t))

-- an equal node has the size of the tree
size_there : (es : List (Node × ℕ)) (n : Node) (s : ℕ) (d : Node × ℕ) → IsSound es → s ≡ size_of (tree_at (trees_of (keys_of es)) n)
    → (k : ℕ) → k < length es → same_node n (get_or es k d).0 ≡ true → (get_or es k d).1 ≡ s
size_there es n s d sound size k l t =
    let ks = keys_of es in
    let ts = trees_of ks in
    let lk : k < length ks = omega (arith, l, length-keys_of es) in
    let lt : k < length ts = omega (arith, lk, length-trees_of ks) in
    let key : get_or ks k d.0 ≡ (get_or es k d).0 = get_or-map (λ (x : Node × ℕ). x.0) es k d d.0 l in
    let value : get_or (values_of es) k d.1 ≡ (get_or es k d).1 = get_or-map (λ (x : Node × ℕ). x.1) es k d d.1 l in
    let tree : get_or ts k (Lit Nat 0) ≡ tree_at ts (get_or ks k d.0) = get_or-trees_of ks k d.0 sound.below lk in
    let same : tree_at ts n ≡ tree_at ts (get_or ks k d.0) = same_tree ts n (get_or ks k d.0) (subst (λ (m : Node). same_node n m ≡ true) (sym key) t) in
    let sized : get_or (map size_of ts) k d.1 ≡ size_of (get_or ts k (Lit Nat 0)) = get_or-map size_of ts k (Lit Nat 0) d.1 lt in
    sym value ∙ ap (λ (vs : List ℕ). get_or vs k d.1) sound.sizes ∙ sized ∙ ap size_of (tree ∙ sym same) ∙ sym size

found_same : (es : List (Node × ℕ)) (n : Node) (s i : ℕ) → IsSound es → s ≡ size_of (tree_at (trees_of (keys_of es)) n) → position (same_node n) (keys_of es) ≡ Some i → insert_entry same_node es n s ≡ es
found_same es n s i sound size at = same_entries es n s (n, s) (size_there es n s (n, s) sound size) (sym (some_index (same_node n) es) ∙ ap is_some at)

pub IsSound-insert : (es : List (Node × ℕ)) (n : Node) (s : ℕ) → IsSound es → IsBelow (length (trees_of (keys_of es))) n → s ≡ size_of (tree_at (trees_of (keys_of es)) n)
    → IsSmall n → IsSound (insert_entry same_node es n s)
IsSound-insert es n s sound below size small = go (position (same_node n) (keys_of es)) refl
  where
    go : (o : Option ℕ) → position (same_node n) (keys_of es) ≡ o → IsSound (insert_entry same_node es n s)
    go None e =
        let h = Missing-position (same_node n) es e in
        rw (insert_entry-absent same_node n s es h.absent) (IsSound-push es n s sound below size small h.value)
    go (Some i) e = rw (found_same es n s i sound size e) sound

pub grows-insert : (es new : List (Node × ℕ)) (n : Node) (s i : ℕ) (ts : List Tree) → trees_of (keys_of es) ≡ ts → IsSound es → s ≡ size_of (tree_at (trees_of (keys_of es)) n)
    → new ≡ insert_entry same_node es n s → i ≡ position_or_len (same_node n) (keys_of es) → GrowsBy ts (trees_of (keys_of new)) (record { index = i }) (tree_at ts n)
grows-insert es new n s i ts same sound size is at = go (position (same_node n) (keys_of es)) refl
  where
    go : (o : Option ℕ) → position (same_node n) (keys_of es) ≡ o → GrowsBy ts (trees_of (keys_of new)) (record { index = i }) (tree_at ts n)
    go None e =
        let h = Missing-position (same_node n) es e in
        grows-new es new n s i ts same (is ∙ insert_entry-absent same_node n s es h.absent) (at ∙ h.or_len)
    go (Some j) e =
        let h = Found-position (same_node n) es j e in
        let trees : trees_of (keys_of new) ≡ ts = ap (λ (x : List (Node × ℕ)). trees_of (keys_of x)) (is ∙ found_same es n s j sound size e) ∙ same in
        subst (λ (us : List Tree). GrowsBy ts us (record { index = i }) (tree_at ts n)) (sym trees) (grows-found es n i ts same sound (e ∙ ap Some (sym (at ∙ h.or_len))))

-- the size of one more part
node_counts-push : (ts : List Tree) (t : Tree) → node_counts (of_list (ts ++ t ∷ [])) ≡ node_counts (of_list ts) + node_count t
node_counts-push [] t = omega arith
node_counts-push (u ∷ ts) t = omega (arith, node_counts-push ts t)

pub sizes_of-next : (ts : List Tree) (es : List ExprId) (k : ℕ) (d : ExprId) → k < length es
    → node_counts (of_list (trees_at ts (take (k + 1) es))) ≡ node_counts (of_list (trees_at ts (take k es))) + node_count (tree_of ts (get_or es k d))
sizes_of-next ts es k d l =
    rw (add-one, take-suc es k d l, map-append (tree_of ts) (take k es) (get_or es k d ∷ [])) (node_counts-push (trees_at ts (take k es)) (tree_of ts (get_or es k d)))

-- the node that an entry has
pub entry_tree : (es : List (Node × ℕ)) (ts : List Tree) (e : ExprId) (n : Node) (s : ℕ) → trees_of (keys_of es) ≡ ts → IsSound es → IsIn ts e → slice_get es e.index ≡ Some (n, s)
    → (tree_of ts e ≡ tree_at ts n) × IsBelow e.index n × IsSmall n
entry_tree es ts e n s same sound is_in at =
    let l : e.index < length es = slice_get_within es e.index (n, s) at in
    let k : get_or es e.index (n, s) ≡ (n, s) = get_or_from_slice_get es e.index (n, s) (n, s) at in
    let m : n ≡ get_or (keys_of es) e.index n = sym (get_or-map (λ (x : Node × ℕ). x.0) es e.index (n, s) n l ∙ ap (λ (x : Node × ℕ). x.0) k) in (
      tree_of-node (keys_of es) ts e n same sound.below is_in m,
      parts_below (keys_of es) ts e n same sound.below is_in m,
      subst IsSmall (sym m) (sound.small e.index n (omega (arith, l, length-keys_of es))),
    )
