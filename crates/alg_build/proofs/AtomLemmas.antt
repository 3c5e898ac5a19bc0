-- The set of atoms as a list of trees.
use Rattle.std.proofs.Common.{◌≡◌, suc, ◌+◌, ◌<◌, List, [], ◌∷◌, ◌++◌, Bool, true, false, ◌||◌, All, refl, ap, sym, subst, arith}
use Rattle.std.specs.Prelude.{length, Some, slice_get, nat_eq, not, cond, if◌then◌else◌}
use Rattle.std.specs.List.{list_any, position_or_len}
use Rattle.std.proofs.lemmas.Bool.Decides.{nat_tests}
use Rattle.std.proofs.lemmas.List.Elements.{All-head, All-tail, All-push}
use Rattle.indexmap.specs.IndexSet.{insert_key}
use Rattle.alg_terms.specs.Tree.{Tree}
use Rattle.alg_terms.specs.Order.{tree_same}
use Rattle.alg_terms.proofs.OrderLaws.{tree_same-equal, tree_same-self}
use Rattle.alg_expr.specs.contracts.ids.ExprIdPartialEq.TheImpl as id_eq
use Rattle.alg_expr.specs.declared.ids.ExprId.{ExprId}
use Rattle.alg_expr.specs.Ids.{tree_of, trees_at, IsIn}
use Rattle.alg_expr.specs.Distinct.{AreDistinct}
use Rattle.alg_expr.proofs.DistinctLaws.{same_id-from_tree}
use Rattle.alg_build.specs.Atoms.{with_atom, number_of}
use Rattle.alg_build.specs.Book.{Book}
use Rattle.alg_build.specs.Inside.{Held, book_of, IsSound}

-- the tree stands at its number
pub atom_stands : (ts : List Tree) (t : Tree) → slice_get (with_atom ts t) (number_of ts t) ≡ Some t
atom_stands [] t = refl
atom_stands (a ∷ ts) t = go (tree_same a t) (tree_same-equal a t) (atom_stands ts t)
  where
    go : (b : Bool) → (b ≡ true → a ≡ t) → slice_get (with_atom ts t) (number_of ts t) ≡ Some t → slice_get (if b then a ∷ ts else a ∷ with_atom ts t) (if b then 0 else suc (number_of ts t)) ≡ Some t
    go true h k = ap Some (h refl)
    go false h k = k

-- a tree keeps its number as others come after it
pub number_stays : (ts more : List Tree) (t : Tree) → number_of ts t < length ts → number_of (ts ++ more) t ≡ number_of ts t
number_stays [] more t h = absurd (omega (arith, h))
number_stays (a ∷ ts) more t h = go (tree_same a t) (number_stays ts more t) h
  where
    go : (b : Bool) → (number_of ts t < length ts → number_of (ts ++ more) t ≡ number_of ts t) → (if b then 0 else suc (number_of ts t)) < suc (length ts) → (if b then 0 else suc (number_of (ts ++ more) t)) ≡ (if b then 0 else suc (number_of ts t))
    go true k l = refl
    go false k l = ap suc (k (omega (arith, l)))

append-none : (l : List Tree) → l ≡ l ++ []
append-none [] = refl
append-none (x ∷ xs) = ap (λ k. x ∷ k) (append-none xs)

-- the trees that were there stay where they were
pub with_atom-grows : (ts : List Tree) (t : Tree) → (more : List Tree) × (with_atom ts t ≡ ts ++ more)
with_atom-grows [] t = (t ∷ [], refl)
with_atom-grows (a ∷ ts) t = go (tree_same a t) (with_atom-grows ts t)
  where
    go : (b : Bool) → ((more : List Tree) × (with_atom ts t ≡ ts ++ more)) → (more : List Tree) × ((if b then a ∷ ts else a ∷ with_atom ts t) ≡ a ∷ (ts ++ more))
    go true h = ([], ap (λ l. a ∷ l) (append-none ts))
    go false h = (h.0, ap (λ l. a ∷ l) h.1)

abbrev pub same : ExprId → ExprId → Bool
same = (id_eq.ghosts).eq

module _ (ts : List Tree) (d : AreDistinct ts) (e : ExprId) (p : IsIn ts e) where
  test : (a : ExprId) → IsIn ts a → tree_same (tree_of ts a) (tree_of ts e) ≡ nat_eq e.index a.index
  test a q = by_test (tree_same (tree_of ts a) (tree_of ts e)) refl
    where
      by_test : (t : Bool) → tree_same (tree_of ts a) (tree_of ts e) ≡ t → t ≡ nat_eq e.index a.index
      by_test true f =
          let i : a ≡ e = same_id-from_tree ts a e d q p (tree_same-equal (tree_of ts a) (tree_of ts e) f) in
          let n : a.index ≡ e.index = ap (λ (x : ExprId). x.index) i in
          grind (arith, nat_tests)
      by_test false f = not_same (nat_eq e.index a.index) refl
        where
          not_same : (t : Bool) → nat_eq e.index a.index ≡ t → false ≡ t
          not_same false g = refl
          not_same true g =
              let n : a.index ≡ e.index = grind (arith, nat_tests) in
              let i : a ≡ e = λ j. record { index = n j } in
              let s : tree_same (tree_of ts a) (tree_of ts e) ≡ true = subst (λ (x : ExprId). tree_same (tree_of ts a) (tree_of ts x) ≡ true) i (tree_same-self (tree_of ts a)) in
              cc

  pub place : (es : List ExprId) → All (IsIn ts) es → position_or_len (same e) es ≡ number_of (trees_at ts es) (tree_of ts e)
  place [] h = refl
  place (a ∷ es) h = rw (test a (All-head (IsIn ts) a es h)) (go (nat_eq e.index a.index) (place es (All-tail (IsIn ts) a es h)))
    where
      go : (b : Bool) → position_or_len (same e) es ≡ number_of (trees_at ts es) (tree_of ts e) → cond (not b) (1 + position_or_len (same e) es) 0 ≡ (if b then 0 else suc (number_of (trees_at ts es) (tree_of ts e)))
      go true k = refl
      go false k = omega (arith, k)

  pub keys : (es : List ExprId) → All (IsIn ts) es → trees_at ts (insert_key same es e) ≡ with_atom (trees_at ts es) (tree_of ts e)
  keys [] h = refl
  keys (a ∷ es) h = rw (test a (All-head (IsIn ts) a es h)) (go (nat_eq e.index a.index) (list_any (same e) es) (keys es (All-tail (IsIn ts) a es h)))
    where
      go : (b u : Bool) → trees_at ts (if u then es else es ++ e ∷ []) ≡ with_atom (trees_at ts es) (tree_of ts e)
          → trees_at ts (if b || u then a ∷ es else a ∷ (es ++ e ∷ [])) ≡ (if b then tree_of ts a ∷ trees_at ts es else tree_of ts a ∷ with_atom (trees_at ts es) (tree_of ts e))
      go true u k = refl
      go false true k = ap (λ l. tree_of ts a ∷ l) k
      go false false k = ap (λ l. tree_of ts a ∷ l) k

  pub keys_in : (es : List ExprId) → All (IsIn ts) es → All (IsIn ts) (insert_key same es e)
  keys_in es h = go (list_any (same e) es)
    where
      go : (u : Bool) → All (IsIn ts) (if u then es else es ++ e ∷ [])
      go true = h
      go false = All-push (IsIn ts) es e h p

-- one more atom
pub sound-atom : (h : Held) (e : ExprId) (old : Book) → book_of h ≡ old → AreDistinct h.trees → IsIn old.trees e → IsSound h → IsSound (record h { atoms = insert_key same h.atoms e })
sound-atom h e old is d p k = record {
  lines_in = k.lines_in;
  done_in = k.done_in;
  atoms_in = keys_in h.trees d e (subst (λ (b : Book). IsIn b.trees e) (sym is) p) h.atoms k.atoms_in;
  given_in = k.given_in;
  theory = k.theory;
  good = k.good;
}

pub atom_number : (h : Held) (e : ExprId) (old : Book) → book_of h ≡ old → AreDistinct h.trees → IsIn old.trees e → IsSound h → position_or_len (same e) h.atoms ≡ number_of old.atoms (tree_of old.trees e)
atom_number h e old is d p k = subst (λ (b : Book). IsIn b.trees e → position_or_len (same e) h.atoms ≡ number_of b.atoms (tree_of b.trees e)) is (λ q. place h.trees d e q h.atoms k.atoms_in) p

pub atom_book : (h : Held) (e : ExprId) (old : Book) → book_of h ≡ old → AreDistinct h.trees → IsIn old.trees e → IsSound h → book_of (record h { atoms = insert_key same h.atoms e }) ≡ record old { atoms = with_atom old.atoms (tree_of old.trees e) }
atom_book h e old is d p k =
    subst (λ (b : Book). IsIn b.trees e → book_of (record h { atoms = insert_key same h.atoms e }) ≡ record b { atoms = with_atom b.atoms (tree_of b.trees e) }) is
    (λ q i. record { theory = (book_of h).theory; trees = h.trees; steps = (book_of h).steps; done = (book_of h).done; atoms = keys h.trees d e q h.atoms k.atoms_in i }) p
