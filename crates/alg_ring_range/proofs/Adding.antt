-- Atoms that are seen, each once.
use Rattle.std.proofs.Common.{◌≡◌, zero, suc, List, [], ◌∷◌, ◌++◌, length, All, refl, sym, ap, ◌∙◌, subst, arith, Bool, true, false, Some, None}
use Rattle.std.specs.Prelude.{◌||◌, ◌≢◌, IsTrue, IsFalse}
use Rattle.alg_terms.specs.Tree.{Tree}
use Rattle.alg_terms.specs.Order.{tree_same}
use Rattle.alg_terms.proofs.OrderLaws.{tree_same-equal, tree_same-self}
use Rattle.alg_expansions.specs.Visited.{is_listed}
use Rattle.alg_ring_range.specs.Atoms.{tree_of_atom, atom_trees, AreOnce, Adds, IsAtomIn}
use Rattle.alg_ring_range.specs.declared.atoms.Atom.{Atom}
use Rattle.alg_ring_range.proofs.Once.{is_listed-append}
use Rattle.alg_ring_range.proofs.Plans.{or_none}

pub same_by : (x y : Tree) (b : Bool) → (IsTrue b → x ≡ y) → (IsFalse b → x ≢ y) → b ≡ tree_same x y
same_by x y true h i = sym (subst (λ z. tree_same x z ≡ true) (h refl) (tree_same-self x))
same_by x y false h i = go (tree_same x y) refl
  where
    go : (b : Bool) → tree_same x y ≡ b → false ≡ b
    go true e = absurd (i refl (tree_same-equal x y e))
    go false e = refl

turned : (x y : Tree) (b : Bool) → tree_same y x ≡ b → tree_same x y ≡ false → tree_same y x ≡ false
turned x y true e h = absurd (let s : y ≡ x = tree_same-equal y x e in let w : tree_same x y ≡ true = subst (λ z. tree_same x z ≡ true) (sym s) (tree_same-self x) in cc)
turned x y false e h = e

neither : (a b : Bool) → (a || b) ≡ false → (a ≡ false) × (b ≡ false)
neither true b e = absurd (cc)
neither false b e = (refl, e)

none_or : (a b : Bool) → a ≡ false → b ≡ false → (a || (b || false)) ≡ false
none_or true b e f = cc
none_or false true e f = cc
none_or false false e f = refl

last_once : (ts : List Tree) (x : Tree) → is_listed x ts ≡ false → AreOnce ts → AreOnce (ts ++ x ∷ [])
last_once [] x h i = (refl, tt)
last_once (t ∷ ts) x h i =
    let n = neither (tree_same t x) (is_listed x ts) h in
    (is_listed-append t ts (x ∷ []) ∙ none_or (is_listed t ts) (tree_same x t) i.0 (turned t x (tree_same x t) refl n.0), last_once ts x n.1 i.1)

map-append : (trees : List Tree) (as' : List Atom) (a : Atom) → atom_trees trees (as' ++ a ∷ []) ≡ atom_trees trees as' ++ tree_of_atom trees a ∷ []
map-append trees [] a = refl
map-append trees (b ∷ as') a = ap (λ ts. tree_of_atom trees b ∷ ts) (map-append trees as' a)

All-cons : {A : Type 0} (P : A → Type 0) (x : A) (xs : List A) → P x → All P xs → All P (x ∷ xs)
All-cons P x xs p h zero d l = p
All-cons P x xs p h (suc k) d l = h k d (omega (arith, l))

All-last : {A : Type 0} (P : A → Type 0) (xs : List A) (x : A) → All P xs → P x → All P (xs ++ x ∷ [])
All-last P [] x h p = All-cons P x [] p (λ k d l. absurd (omega (arith, l)))
All-last P (y ∷ xs) x h p = All-cons P y (xs ++ x ∷ []) (h 0 y (omega arith)) (All-last P xs x (λ k d l. h (suc k) d (omega (arith, l))) p)

pub adds-nothing : (trees : List Tree) (old : List Atom) → Adds trees old old None
adds-nothing trees old = record { same = λ t. sym (or_none (is_listed t (atom_trees trees old))); once = λ h. h; here = λ h. h }

seen_same : (t u : Tree) (ts : List Tree) (b : Bool) → tree_same u t ≡ b → is_listed u ts ≡ true → is_listed t ts ≡ (is_listed t ts || b)
seen_same t u ts true e h = let s : u ≡ t = tree_same-equal u t e in let w : is_listed t ts ≡ true = subst (λ v. is_listed v ts ≡ true) s h in rw w refl
seen_same t u ts false e h = sym (or_none (is_listed t ts))

pub adds-seen : (trees : List Tree) (old : List Atom) (a : Atom) → is_listed (tree_of_atom trees a) (atom_trees trees old) ≡ true → Adds trees old old (Some a)
adds-seen trees old a h = record { same = λ t. seen_same t (tree_of_atom trees a) (atom_trees trees old) (tree_same (tree_of_atom trees a) t) refl h; once = λ i. i; here = λ i. i }

pub adds-new : (trees : List Tree) (old new : List Atom) (a : Atom) → new ≡ old ++ a ∷ [] → is_listed (tree_of_atom trees a) (atom_trees trees old) ≡ false → IsAtomIn (length trees) (Some a) → Adds trees old new (Some a)
adds-new trees old new a e h i = rw e (record {
  same = λ t. ap (is_listed t) (map-append trees old a) ∙ is_listed-append t (atom_trees trees old) (tree_of_atom trees a ∷ []) ∙ ap (λ b. is_listed t (atom_trees trees old) || b) (or_none (tree_same (tree_of_atom trees a) t));
  once = λ o. subst AreOnce (sym (map-append trees old a)) (last_once (atom_trees trees old) (tree_of_atom trees a) h o);
  here = λ o. All-last (λ x. IsAtomIn (length trees) (Some x)) old a o i;
})

pub ruleset adding = (adds-nothing, adds-seen, adds-new)
