-- Copies of trees, a step at a time.
use Rattle.std.proofs.Common.{◌≡◌, ℕ, suc, ◌<◌, ◌≤◌, ◌+◌, ◌-◌, ◌*◌, Bool, true, false, List, [], ◌∷◌, ◌++◌, length, get_or, take, All, Option, Some, None, is_some, nat_eq, eqb, refl, ap, sym, ◌∙◌, subst, arith, add-one, length-append, true≢false}
use borrow.Author.Tests.{eqb-true}
use Rattle.std.proofs.Math.Seq.{take-suc, get_or-append_seam}
use Rattle.std.proofs.lemmas.List.{map-append}
use Rattle.std.proofs.lemmas.Map.Steps.{length-le_from_distinct_below}
use Rattle.std.proofs.lemmas.Map.Made.{is_some-lookup}
use Rattle.std.proofs.lemmas.Map.Entries.{length-keys_of}
use Rattle.indexmap.specs.IndexMap.{IndexMap, get, keys, index_map_len, IsUnique, Updates}
use Rattle.alg_terms.specs.declared.sorts.Sort.TheVariants.{Nat}
use Rattle.alg_terms.specs.Tree.{Tree, Lit}
use Rattle.alg_expr.specs.declared.ids.ExprId.{ExprId}
use Rattle.alg_expr.specs.Ids.{tree_of, IsIn, trees_at}
use Rattle.alg_expr.specs.Arena.{Extends, Imports}
use Rattle.alg_expr.proofs.ArenaLaws.{IsIn-extends, tree_of-extends}
use Rattle.alg_expr.specs.Copies.{IsCopy, AreCopies, next_of, weight, steps_left}

-- one more copy of a list of parts
pub trees_at-next : (fs ts : List Tree) (cs args : List ExprId) (k : ℕ) (c d : ExprId) → trees_at ts cs ≡ trees_at fs (take k args) → k < length args
    → tree_of ts c ≡ tree_of fs (get_or args k d) → trees_at ts (cs ++ c ∷ []) ≡ trees_at fs (take (k + 1) args)
trees_at-next fs ts cs args k c d h l e =
    rw (add-one, take-suc args k d l, map-append (tree_of ts) cs (c ∷ []), map-append (tree_of fs) (take k args) (get_or args k d ∷ []), h, e) refl

module _ {S : Type 0} where
  -- copies stay copies as the arena grows
  pub AreCopies-extends : (fs old new : List Tree) (m : IndexMap ℕ ExprId S) → Extends old new → AreCopies fs old m → AreCopies fs new m
  AreCopies-extends fs old new m x h k e at =
      let c = h k e at in
      record { within = c.within; here = IsIn-extends old new e x c.here; tree = tree_of-extends old new e x c.here ∙ c.tree }

  -- and with one more copy
  pub AreCopies-insert : (fs old new : List Tree) (m n : IndexMap ℕ ExprId S) (i e : ExprId) → AreCopies fs old m → Updates nat_eq m n i.index (Some e)
      → IsIn fs i → Imports old new e (tree_of fs i) → AreCopies fs new n
  AreCopies-insert fs old new m n i e h u i_in copy k f at = by (eqb i.index k) refl
    where
      by : (b : Bool) → eqb i.index k ≡ b → IsCopy fs new k f
      by true same =
          let s : i.index ≡ k = eqb-true i.index k same in
          let v : Some e ≡ Some f = sym u.1 ∙ ap (get nat_eq n) s ∙ at in
          let w : e ≡ f = cc in
          subst (IsCopy fs new k) w (record { within = subst (λ j. j < length fs) s i_in; here = copy.here; tree = copy.tree ∙ ap (λ j. get_or fs j (Lit Nat 0)) s })
      by false apart = AreCopies-extends fs old new m copy.keeps h k f (sym (u.2 k apart) ∙ at)

  -- there are no more copies than trees
  pub copies_fit : (fs ts : List Tree) (m : IndexMap ℕ ExprId S) → IsUnique nat_eq m → AreCopies fs ts m → index_map_len m ≤ length fs
  copies_fit fs ts m unique h =
      let bound : length (keys m) ≤ length fs =
      length-le_from_distinct_below (keys m) (length fs) unique
      (λ q any. by q (get nat_eq m q) refl (is_some-lookup (nat_eq q) m.entries ∙ any)) in
      omega (arith, bound, length-keys_of m.entries)
    where
      by : (q : ℕ) (o : Option ExprId) → get nat_eq m q ≡ o → is_some (get nat_eq m q) ≡ true → q < length fs
      by q None e t = absurd (true≢false (sym t ∙ ap is_some e))
      by q (Some f) e t = (h q f e).within

weight-le : (b : Bool) (n i : ℕ) → i < n → weight b n i ≤ 2 * n + 2
weight-le true n i l = omega arith
weight-le false n i l = omega arith

next_of-push : (es : List ExprId) (p id : ExprId) → next_of (es ++ p ∷ []) id ≡ p
next_of-push es p id =
    let e : length (es ++ p ∷ []) - 1 ≡ length es = omega (arith, length-append es (p ∷ [])) in
    rw e (get_or-append_seam es p [] id)

pub next_in : (fs : List Tree) (es : List ExprId) (id : ExprId) → All (IsIn fs) es → IsIn fs id → IsIn fs (next_of es id)
next_in fs [] id h i = i
next_in fs (e ∷ es) id h i = let l : suc (length es) - 1 ≡ length es = omega arith in rw l (h (length es) id (omega arith))

one_less : (n d k : ℕ) → d + 1 ≤ n → (n - (d + 1)) * k + k ≡ (n - d) * k
one_less n d k l = let e : n - d ≡ suc (n - (d + 1)) = omega arith in rw e (omega arith)

module _ {S : Type 0} (fs : List Tree) (id : ExprId) where
  -- each of the three steps leaves fewer
  pub smaller-pop : (m : IndexMap ℕ ExprId S) (es rest : List ExprId) (next : ExprId) (e : ExprId) → next ≡ next_of es id → get nat_eq m next.index ≡ Some e
      → length rest + 1 ≡ length es → All (IsIn fs) rest → IsIn fs id → steps_left (length fs) m rest id < steps_left (length fs) m es id
  smaller-pop m es rest next e is at l rest_in id_in =
      let w = weight-le (is_some (get nat_eq m (next_of rest id).index)) (length fs) (next_of rest id).index (next_in fs rest id rest_in id_in) in
      let v : weight (is_some (get nat_eq m (next_of es id).index)) (length fs) (next_of es id).index ≡ 2 * length fs + 2 = rw (← is, at) refl in
      omega (arith, w, v, l)

  pub smaller-insert : (m n : IndexMap ℕ ExprId S) (es : List ExprId) (next : ExprId) → next ≡ next_of es id → get nat_eq m next.index ≡ None
      → index_map_len n ≡ index_map_len m + 1 → index_map_len n ≤ length fs → All (IsIn fs) es → IsIn fs id
      → steps_left (length fs) n es id < steps_left (length fs) m es id
  smaller-insert m n es next is at l fits es_in id_in =
      let w = weight-le (is_some (get nat_eq n (next_of es id).index)) (length fs) (next_of es id).index (next_in fs es id es_in id_in) in
      let v : weight (is_some (get nat_eq m (next_of es id).index)) (length fs) (next_of es id).index ≡ 2 * (next_of es id).index = rw (← is, at) refl in
      let o = one_less (length fs) (index_map_len m) (2 * length fs + 3) (omega (arith, l, fits)) in
      rw l (omega (arith, w, v, o))

  pub smaller-push : (m : IndexMap ℕ ExprId S) (es : List ExprId) (next p : ExprId) → next ≡ next_of es id → get nat_eq m next.index ≡ None
      → p.index < next.index → get nat_eq m p.index ≡ None → steps_left (length fs) m (es ++ p ∷ []) id < steps_left (length fs) m es id
  smaller-push m es next p is at below missing =
      let v : weight (is_some (get nat_eq m (next_of es id).index)) (length fs) (next_of es id).index ≡ 2 * next.index = rw (← is, at) refl in
      let w : weight (is_some (get nat_eq m (next_of (es ++ p ∷ []) id).index)) (length fs) (next_of (es ++ p ∷ []) id).index ≡ 2 * p.index = rw (next_of-push es p id, missing) refl in
      omega (arith, v, w, below, length-append es (p ∷ []))

-- the copy of the tree itself
pub Imports-done : (fs old ts : List Tree) (es : List ExprId) (id next e : ExprId) → length es ≡ 0 → next ≡ next_of es id → Extends old ts → IsCopy fs ts next.index e → Imports old ts e (tree_of fs id)
Imports-done fs old ts [] id next e l is x copy = record { keeps = x; here = copy.here; tree = copy.tree ∙ ap (tree_of fs) is }
Imports-done fs old ts (y ∷ es) id next e l is x copy = absurd (omega (arith, l))
