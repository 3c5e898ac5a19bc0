-- What is derivable is well sorted.
use Rattle.std.specs.Prelude.{◌≡◌, ℕ, suc, ℤ, pos, negsuc, true, ◌||◌, List, [], ◌∷◌, map, Option, Some, Contains, refl}
use Rattle.std.proofs.Common.{sym, ◌∙◌, inl, inr}
use Rattle.alg_terms.specs.declared.sorts.Sort.{Sort}
use Rattle.alg_terms.specs.declared.sorts.Sort.TheVariants.{Nat, Int}
use Rattle.alg_terms.specs.declared.symbols.Sym.{Sym}
use Rattle.alg_terms.specs.declared.symbols.Sym.TheVariants.{Neg, Npow, Zpow, Nsmul, Zsmul, NatSub, IDiv, Mod, Gcd, Lcm, Fact, Choose, Fib}
use Rattle.alg_terms.specs.Tree.{Tree, Lit, App, Nil, Cons, of_list, Statement, sort_of_tree, equal, sum_tree}
use Rattle.alg_terms.proofs.OrderLaws.{sort_same-self}
use Rattle.alg_law.specs.declared.classes.Class.TheVariants.{Semiring, AddGroup, AddMonoid, Monoid, Group, Field}
use Rattle.alg_law.specs.declared.marks.Mark.TheVariants.{Good}
use Rattle.alg_law.specs.Declarations.{Declaration, hypotheses}
use Rattle.alg_law.specs.Having.{has_class}
use Rattle.alg_law.proofs.HavingLaws.{has_class-all}
use Rattle.alg_law.specs.Lawful.{IsLawful}
use Rattle.alg_law.specs.WellSorted.{head_mark, mark_of, IsWellSorted, IsStatement}
use Rattle.alg_law.proofs.WellSortedLaws.{worse-good, known-from_good, literal-good, sum-good, product-good, semiring-add}
use Rattle.alg_law.specs.LeanFunctions.{IsNaturalValue, IsIntegerValue}
use Rattle.alg_law.specs.Derivations.{numeral, related, LiteralLaw, next_literal, distinct, smul_literal, zsmul_literal, zpow_literal, natural_value, integer_value, natural_divides, integer_divides, Derivable, reflexive, symmetric, transitive, congruent, substitution, row, literal_law, hypothesis, rest}
use Rattle.alg_proof.proofs.PatternLaws.{or_else, char_zero-semiring}
use Rattle.alg_proof.proofs.LawSorts.{law-statement}

-- an equation of well sorted trees of one sort is a statement
pub equation-good : (ds : List Declaration) (x y : Tree) → IsWellSorted ds x → IsWellSorted ds y → sort_of_tree y ≡ sort_of_tree x → IsStatement ds (equal x y)
equation-good ds x y g h e = record { left = g; right = h; left_sort = refl; right_sort = e; related = refl }

module _ (ds : List Declaration) (lawful : IsLawful ds) where
  natural-good : (n : ℕ) → IsWellSorted ds (Lit Nat n)
  natural-good n = literal-good ds Nat refl refl n

  integer-good : (n : ℕ) → IsWellSorted ds (Lit Int n)
  integer-good n = literal-good ds Int refl refl n

  numeral-sort : (x : ℤ) → sort_of_tree (numeral x) ≡ Int
  numeral-sort (pos n) = refl
  numeral-sort (negsuc n) = refl

  numeral-good : (x : ℤ) → IsWellSorted ds (numeral x)
  numeral-good (pos n) = integer-good n
  numeral-good (negsuc n) = worse-good (head_mark ds Neg Int (Int ∷ [])) _ refl (worse-good (mark_of ds (Lit Int (suc n))) Good (integer-good (suc n)) refl)

  one-good : (f : Sym) (s : Sort) (x : Tree) → head_mark ds f s (sort_of_tree x ∷ []) ≡ Good → IsWellSorted ds x → IsWellSorted ds (App f s (Cons x Nil))
  one-good f s x h g = worse-good (head_mark ds f s (sort_of_tree x ∷ [])) _ h (worse-good (mark_of ds x) Good g refl)

  two-good : (f : Sym) (s : Sort) (x y : Tree) → head_mark ds f s (sort_of_tree x ∷ sort_of_tree y ∷ []) ≡ Good → IsWellSorted ds x → IsWellSorted ds y → IsWellSorted ds (App f s (Cons x (Cons y Nil)))
  two-good f s x y h g k = worse-good (head_mark ds f s (sort_of_tree x ∷ sort_of_tree y ∷ [])) _ h (worse-good (mark_of ds x) _ g (worse-good (mark_of ds y) Good k refl))

  natural_value-good : (f : Sym) (xs : List ℕ) (v : ℕ) → IsNaturalValue f xs v → IsWellSorted ds (App f Nat (of_list (map (Lit Nat) xs)))
  natural_value-good NatSub (a ∷ b ∷ []) v h = two-good NatSub Nat (Lit Nat a) (Lit Nat b) refl (natural-good a) (natural-good b)
  natural_value-good IDiv (a ∷ b ∷ []) v h = two-good IDiv Nat (Lit Nat a) (Lit Nat b) refl (natural-good a) (natural-good b)
  natural_value-good Mod (a ∷ b ∷ []) v h = two-good Mod Nat (Lit Nat a) (Lit Nat b) refl (natural-good a) (natural-good b)
  natural_value-good Gcd (a ∷ b ∷ []) v h = two-good Gcd Nat (Lit Nat a) (Lit Nat b) refl (natural-good a) (natural-good b)
  natural_value-good Lcm (a ∷ b ∷ []) v h = two-good Lcm Nat (Lit Nat a) (Lit Nat b) refl (natural-good a) (natural-good b)
  natural_value-good Fact (a ∷ []) v h = one-good Fact Nat (Lit Nat a) refl (natural-good a)
  natural_value-good Choose (a ∷ b ∷ []) v h = two-good Choose Nat (Lit Nat a) (Lit Nat b) refl (natural-good a) (natural-good b)
  natural_value-good Fib (a ∷ []) v h = one-good Fib Nat (Lit Nat a) refl (natural-good a)
  natural_value-good _ _ v h = absurd h

  integer_two : (f : Sym) (a b : ℤ) → head_mark ds f Int (Int ∷ Int ∷ []) ≡ Good → IsWellSorted ds (App f Int (Cons (numeral a) (Cons (numeral b) Nil)))
  integer_two f a b h =
      let e : head_mark ds f Int (sort_of_tree (numeral a) ∷ sort_of_tree (numeral b) ∷ []) ≡ Good = rw (numeral-sort a, numeral-sort b) h in
      two-good f Int (numeral a) (numeral b) e (numeral-good a) (numeral-good b)

  integer_value-good : (f : Sym) (xs : List ℤ) (v : ℤ) → IsIntegerValue f xs v → IsWellSorted ds (App f Int (of_list (map numeral xs)))
  integer_value-good IDiv (a ∷ b ∷ []) v h = integer_two IDiv a b refl
  integer_value-good Mod (a ∷ b ∷ []) v h = integer_two Mod a b refl
  integer_value-good _ _ v h = absurd h

  -- a symbol over a literal and a tree of its sort
  nsmul-good : (x : Tree) (n : ℕ) → IsWellSorted ds x → has_class ds (sort_of_tree x) AddMonoid ≡ true → IsWellSorted ds (App Nsmul (sort_of_tree x) (Cons (Lit Nat n) (Cons x Nil)))
  nsmul-good x n g c = two-good Nsmul (sort_of_tree x) (Lit Nat n) x (rw (known-from_good ds x g, sort_same-self (sort_of_tree x), c) refl) (natural-good n) g

  zsmul-good : (x : Tree) (n : ℕ) → IsWellSorted ds x → has_class ds (sort_of_tree x) AddGroup ≡ true → IsWellSorted ds (App Zsmul (sort_of_tree x) (Cons (Lit Int n) (Cons x Nil)))
  zsmul-good x n g c = two-good Zsmul (sort_of_tree x) (Lit Int n) x (rw (known-from_good ds x g, sort_same-self (sort_of_tree x), c) refl) (integer-good n) g

  npow-good : (x : Tree) (n : ℕ) → IsWellSorted ds x → has_class ds (sort_of_tree x) Monoid ≡ true → IsWellSorted ds (App Npow (sort_of_tree x) (Cons x (Cons (Lit Nat n) Nil)))
  npow-good x n g c = two-good Npow (sort_of_tree x) x (Lit Nat n) (rw (known-from_good ds x g, sort_same-self (sort_of_tree x), c) refl) g (natural-good n)

  zpow-good : (x : Tree) (n : ℕ) → IsWellSorted ds x → (has_class ds (sort_of_tree x) Group || has_class ds (sort_of_tree x) Field) ≡ true → IsWellSorted ds (App Zpow (sort_of_tree x) (Cons x (Cons (Lit Int n) Nil)))
  zpow-good x n g c = two-good Zpow (sort_of_tree x) x (Lit Int n) (rw (known-from_good ds x g, sort_same-self (sort_of_tree x), c) refl) g (integer-good n)

  monoid-from : (s : Sort) → (has_class ds s Group || has_class ds s Field) ≡ true → has_class ds s Monoid ≡ true
  monoid-from s e =
      elim (or_else (has_class ds s Group) (has_class ds s Field) e) [
        | inl p ↦ has_class-all ds s Group Monoid refl p
        | inr p ↦ has_class-all ds s Field Monoid refl p
      ]

  literal-statement : (s : Statement) → LiteralLaw ds s → IsStatement ds s
  literal-statement _ (next_literal s n known ring) =
      equation-good ds (Lit s (suc n)) (sum_tree s (Lit s n) (Lit s 1)) (literal-good ds s known ring (suc n))
      (sum-good ds s known ring (Lit s n) (Lit s 1) refl refl (literal-good ds s known ring n) (literal-good ds s known ring 1)) refl
  literal-statement _ (distinct s m n known cz e) =
      let ring : has_class ds s Semiring ≡ true = char_zero-semiring ds lawful s cz in
      record { left = literal-good ds s known ring m; right = literal-good ds s known ring n; left_sort = refl; right_sort = refl; related = refl }
  literal-statement _ (smul_literal x n g ring) =
      let known = known-from_good ds x g in
      equation-good ds _ _ (nsmul-good x n g (semiring-add ds (sort_of_tree x) known ring))
      (product-good ds (sort_of_tree x) known ring (Lit (sort_of_tree x) n) x refl refl (literal-good ds (sort_of_tree x) known ring n) g) refl
  literal-statement _ (zsmul_literal x n g c) = equation-good ds _ _ (zsmul-good x n g c) (nsmul-good x n g (has_class-all ds (sort_of_tree x) AddGroup AddMonoid refl c)) refl
  literal-statement _ (zpow_literal x n g c) = equation-good ds _ _ (zpow-good x n g c) (npow-good x n g (monoid-from (sort_of_tree x) c)) refl
  literal-statement _ (natural_value f xs v h) = equation-good ds _ (Lit Nat v) (natural_value-good f xs v h) (natural-good v) refl
  literal-statement _ (integer_value f xs v h) = equation-good ds _ (numeral v) (integer_value-good f xs v h) (numeral-good v) (numeral-sort v)
  literal-statement _ (natural_divides x y d) = record { left = natural-good x; right = natural-good y; left_sort = refl; right_sort = refl; related = refl }
  literal-statement _ (integer_divides x y d) = record { left = numeral-good x; right = numeral-good y; left_sort = numeral-sort x; right_sort = numeral-sort y; related = refl }

  module _ (given : Option Statement) (hyps : (s : Statement) → Contains (hypotheses ds) s → IsStatement ds s) (there : (s : Statement) → given ≡ Some s → IsStatement ds s) where
    pub derivable-statement : (s : Statement) → Derivable ds given s → IsStatement ds s
    derivable-statement _ (reflexive x g) = equation-good ds x x g g refl
    derivable-statement _ (symmetric x y e d) =
        let h = derivable-statement (equal x y) d in
        equation-good ds y x h.right h.left (sym e)
    derivable-statement _ (transitive x y z d e) =
        let h = derivable-statement (equal x y) d in
        let k = derivable-statement (equal y z) e in
        equation-good ds x z h.left k.right (k.right_sort ∙ h.right_sort)
    derivable-statement _ (congruent f s xs ys g h n d) = equation-good ds (App f s xs) (App f s ys) g h refl
    derivable-statement _ (substitution r s x y u v d e f) =
        let a = derivable-statement (related r s x y) d in
        let b = derivable-statement (equal x u) e in
        let c = derivable-statement (equal y v) f in
        record { left = b.right; right = c.right; left_sort = b.right_sort ∙ a.left_sort; right_sort = c.right_sort ∙ a.right_sort; related = a.related }
    derivable-statement _ (row r s with i m p) = law-statement ds r s with lawful i m
    derivable-statement _ (literal_law s l) = literal-statement s l
    derivable-statement _ (hypothesis s i) = hyps s i
    derivable-statement _ (rest s e) = there s e
