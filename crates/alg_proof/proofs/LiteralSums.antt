-- Sums and products of literals follow from the laws, by induction on the literals.
use Rattle.std.specs.Prelude.{◌≡◌, ℕ, zero, suc, ◌+◌, ◌*◌, List, [], ◌∷◌, Option, refl, true}
use Rattle.std.proofs.Common.{add-suc, add-zero, mul-zero, mul-suc}
use Rattle.alg_terms.specs.declared.sorts.Sort.{Sort}
use Rattle.alg_terms.specs.declared.symbols.Sym.TheVariants.{Add, Mul}
use Rattle.alg_terms.specs.Tree.{Tree, Lit, Nil, Cons, Statement, sort_of_tree, equal, sum_tree, product_tree}
use Rattle.alg_law.specs.declared.classes.Class.TheVariants.{Semiring}
use Rattle.alg_law.specs.declared.marks.Mark.TheVariants.{Good}
use Rattle.alg_law.specs.Declarations.{Declaration}
use Rattle.alg_law.specs.Having.{has_class}
use Rattle.alg_law.specs.WellSorted.{sort_mark, mark_of, IsWellSorted, AreWellSorted}
use Rattle.alg_law.proofs.WellSortedLaws.{worse-good, literal-good, sum-good, product-good, semiring-add, semiring-one}
use Rattle.alg_law.specs.AdditiveLaws.{add_assoc, add_zero}
use Rattle.alg_law.specs.MultiplicativeLaws.{mul_one}
use Rattle.alg_law.specs.RingLaws.{left_distrib, mul_zero}
use Rattle.alg_law.proofs.LawTableLaws.{has-add_assoc, has-add_zero, has-mul_one, has-left_distrib, has-mul_zero}
use Rattle.alg_law.specs.Derivations.{Derivable, reflexive, symmetric, transitive, congruent, row, literal_law, next_literal, none, more}

module _ (ds : List Declaration) (given : Option Statement) (s : Sort) (known : sort_mark ds s ≡ Good) (ring : has_class ds s Semiring ≡ true) where
  abbrev Has : Tree → Tree → Type 0
  Has x y = Derivable ds given (equal x y)

  good : (n : ℕ) → IsWellSorted ds (Lit s n)
  good n = literal-good ds s known ring n

  sum-of_literals : (m n : ℕ) → IsWellSorted ds (sum_tree s (Lit s m) (Lit s n))
  sum-of_literals m n = sum-good ds s known ring (Lit s m) (Lit s n) refl refl (good m) (good n)

  product-of_literals : (m n : ℕ) → IsWellSorted ds (product_tree s (Lit s m) (Lit s n))
  product-of_literals m n = product-good ds s known ring (Lit s m) (Lit s n) refl refl (good m) (good n)

  all-good : (m n k : ℕ) → AreWellSorted ds (Cons (Lit s m) (Cons (Lit s n) (Cons (Lit s k) Nil)))
  all-good m n k = worse-good (mark_of ds (Lit s m)) _ (good m) (worse-good (mark_of ds (Lit s n)) _ (good n) (worse-good (mark_of ds (Lit s k)) Good (good k) refl))

  one-good : (m : ℕ) → AreWellSorted ds (Cons (Lit s m) Nil)
  one-good m = worse-good (mark_of ds (Lit s m)) Good (good m) refl

  plus_zero : (m : ℕ) → Has (sum_tree s (Lit s m) (Lit s 0)) (Lit s m)
  plus_zero m = row add_zero s (Lit s m ∷ []) has-add_zero (record { known = known; needs = rw (semiring-add ds s known ring) refl; sorts = refl; trees = one-good m }) none

  plus_assoc : (m n k : ℕ) → Has (sum_tree s (sum_tree s (Lit s m) (Lit s n)) (Lit s k)) (sum_tree s (Lit s m) (sum_tree s (Lit s n) (Lit s k)))
  plus_assoc m n k =
      row add_assoc s (Lit s m ∷ Lit s n ∷ Lit s k ∷ []) has-add_assoc
      (record { known = known; needs = rw (semiring-add ds s known ring) refl; sorts = refl; trees = all-good m n k }) none

  times_zero : (m : ℕ) → Has (product_tree s (Lit s m) (Lit s 0)) (Lit s 0)
  times_zero m = row mul_zero s (Lit s m ∷ []) has-mul_zero (record { known = known; needs = rw ring refl; sorts = refl; trees = one-good m }) none

  times_one : (m : ℕ) → Has (product_tree s (Lit s m) (Lit s 1)) (Lit s m)
  times_one m = row mul_one s (Lit s m ∷ []) has-mul_one (record { known = known; needs = rw (semiring-one ds s known ring) refl; sorts = refl; trees = one-good m }) none

  distrib : (m n k : ℕ) → Has (product_tree s (Lit s m) (sum_tree s (Lit s n) (Lit s k))) (sum_tree s (product_tree s (Lit s m) (Lit s n)) (product_tree s (Lit s m) (Lit s k)))
  distrib m n k =
      row left_distrib s (Lit s m ∷ Lit s n ∷ Lit s k ∷ []) has-left_distrib
      (record { known = known; needs = rw ring refl; sorts = refl; trees = all-good m n k }) none

  next : (n : ℕ) → Has (Lit s (suc n)) (sum_tree s (Lit s n) (Lit s 1))
  next n = literal_law _ (next_literal s n known ring)

  -- both parts of a sum replaced by equals
  sum_congruent : (x y u v : Tree) → sort_of_tree x ≡ s → sort_of_tree y ≡ s → sort_of_tree u ≡ s → sort_of_tree v ≡ s
      → IsWellSorted ds x → IsWellSorted ds y → IsWellSorted ds u → IsWellSorted ds v → Has x u → Has y v → Has (sum_tree s x y) (sum_tree s u v)
  sum_congruent x y u v p q p' q' g h g' h' d e =
      congruent Add s (Cons x (Cons y Nil)) (Cons u (Cons v Nil)) (sum-good ds s known ring x y p q g h) (sum-good ds s known ring u v p' q' g' h') refl (more _ _ d (more _ _ e none))

  product_congruent : (x y u v : Tree) → sort_of_tree x ≡ s → sort_of_tree y ≡ s → sort_of_tree u ≡ s → sort_of_tree v ≡ s
      → IsWellSorted ds x → IsWellSorted ds y → IsWellSorted ds u → IsWellSorted ds v → Has x u → Has y v → Has (product_tree s x y) (product_tree s u v)
  product_congruent x y u v p q p' q' g h g' h' d e =
      congruent Mul s (Cons x (Cons y Nil)) (Cons u (Cons v Nil)) (product-good ds s known ring x y p q g h) (product-good ds s known ring u v p' q' g' h') refl (more _ _ d (more _ _ e none))

  -- m + (n + 1) = m + n + 1
  pub literal_sum : (m n : ℕ) → Has (sum_tree s (Lit s m) (Lit s n)) (Lit s (m + n))
  literal_sum m zero = rw (add-zero m) (plus_zero m)
  literal_sum m (suc n) =
      rw (add-suc m n)
      (transitive _ (sum_tree s (Lit s m) (sum_tree s (Lit s n) (Lit s 1))) _
      (sum_congruent (Lit s m) (Lit s (suc n)) (Lit s m) (sum_tree s (Lit s n) (Lit s 1)) refl refl refl refl (good m) (good (suc n)) (good m) (sum-of_literals n 1) (reflexive (Lit s m) (good m)) (next n))
      (transitive _ (sum_tree s (sum_tree s (Lit s m) (Lit s n)) (Lit s 1)) _
      (symmetric _ _ refl (plus_assoc m n 1))
      (transitive _ (sum_tree s (Lit s (m + n)) (Lit s 1)) _
      (sum_congruent (sum_tree s (Lit s m) (Lit s n)) (Lit s 1) (Lit s (m + n)) (Lit s 1) refl refl refl refl (sum-of_literals m n) (good 1) (good (m + n)) (good 1) (literal_sum m n) (reflexive (Lit s 1) (good 1)))
      (symmetric _ _ refl (next (m + n))))))

  -- m * (n + 1) = m * n + m
  pub literal_product : (m n : ℕ) → Has (product_tree s (Lit s m) (Lit s n)) (Lit s (m * n))
  literal_product m zero = rw (mul-zero m) (times_zero m)
  literal_product m (suc n) =
      rw (mul-suc m n)
      (transitive _ (product_tree s (Lit s m) (sum_tree s (Lit s n) (Lit s 1))) _
      (product_congruent (Lit s m) (Lit s (suc n)) (Lit s m) (sum_tree s (Lit s n) (Lit s 1)) refl refl refl refl (good m) (good (suc n)) (good m) (sum-of_literals n 1) (reflexive (Lit s m) (good m)) (next n))
      (transitive _ (sum_tree s (product_tree s (Lit s m) (Lit s n)) (product_tree s (Lit s m) (Lit s 1))) _
      (distrib m n 1)
      (transitive _ (sum_tree s (Lit s (m * n)) (Lit s m)) _
      (sum_congruent (product_tree s (Lit s m) (Lit s n)) (product_tree s (Lit s m) (Lit s 1)) (Lit s (m * n)) (Lit s m) refl refl refl refl (product-of_literals m n) (product-of_literals m 1) (good (m * n)) (good m) (literal_product m n) (times_one m))
      (literal_sum (m * n) m))))
