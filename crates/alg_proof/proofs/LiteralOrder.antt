-- The order of literals follows from the laws, by induction on the literals.
use Rattle.std.specs.Prelude.{◌≡◌, ℕ, zero, suc, ◌+◌, ◌-◌, ◌<◌, ◌≤◌, List, [], ◌∷◌, Option, refl, true, Contains}
use Rattle.std.proofs.Common.{lit<, sym, ◌∙◌, subst, arith}
use Rattle.alg_terms.specs.declared.sorts.Sort.{Sort}
use Rattle.alg_terms.specs.declared.relations.Rel.TheVariants.{Lt, Le}
use Rattle.alg_terms.specs.Tree.{Tree, Lit, Nil, Cons, Statement, equal, sum_tree}
use Rattle.alg_law.specs.declared.classes.Class.TheVariants.{Semiring, LinearOrder, IsStrictOrderedRing}
use Rattle.alg_law.specs.declared.marks.Mark.TheVariants.{Good}
use Rattle.alg_law.specs.Declarations.{Declaration}
use Rattle.alg_law.specs.Having.{has_class}
use Rattle.alg_law.specs.Lawful.{IsLawful}
use Rattle.alg_law.specs.WellSorted.{sort_mark, mark_of, IsWellSorted, AreWellSorted}
use Rattle.alg_law.proofs.WellSortedLaws.{worse-good, literal-good}
use Rattle.alg_law.specs.Laws.{law_table}
use Rattle.alg_law.specs.OrderLaws.{order_laws, le_refl, le_of_lt, lt_trans}
use Rattle.alg_law.specs.OrderedRingLaws.{ordered_semiring_laws, zero_lt_one, add_lt_add_le}
use Rattle.alg_law.proofs.LawTableLaws.{has-order_law, has-ordered_semiring_law}
use Rattle.alg_law.specs.Derivations.{related, Derivable, substitution, row, none, more}
use Rattle.alg_proof.proofs.PatternLaws.{ordered-parts}
use Rattle.alg_proof.proofs.LiteralSums.{literal_sum}

has-le_refl : Contains law_table le_refl
unfolding order_laws
has-le_refl = has-order_law le_refl (0, lit< tt, refl)

has-le_of_lt : Contains law_table le_of_lt
unfolding order_laws
has-le_of_lt = has-order_law le_of_lt (1, lit< tt, refl)

has-lt_trans : Contains law_table lt_trans
unfolding order_laws
has-lt_trans = has-order_law lt_trans (5, lit< tt, refl)

has-zero_lt_one : Contains law_table zero_lt_one
unfolding ordered_semiring_laws
has-zero_lt_one = has-ordered_semiring_law zero_lt_one (0, lit< tt, refl)

has-add_lt_add_le : Contains law_table add_lt_add_le
unfolding ordered_semiring_laws
has-add_lt_add_le = has-ordered_semiring_law add_lt_add_le (3, lit< tt, refl)

module _ (ds : List Declaration) (given : Option Statement) (lawful : IsLawful ds) (s : Sort) (known : sort_mark ds s ≡ Good) (ordered : has_class ds s IsStrictOrderedRing ≡ true) where
  ring : has_class ds s Semiring ≡ true
  ring = (ordered-parts ds lawful s ordered).0

  order : has_class ds s LinearOrder ≡ true
  order = (ordered-parts ds lawful s ordered).1

  abbrev IsLess : Tree → Tree → Type 0
  IsLess x y = Derivable ds given (related Lt s x y)

  abbrev IsAtMost : Tree → Tree → Type 0
  IsAtMost x y = Derivable ds given (related Le s x y)

  good : (n : ℕ) → IsWellSorted ds (Lit s n)
  good n = literal-good ds s known ring n

  one : (m : ℕ) → AreWellSorted ds (Cons (Lit s m) Nil)
  one m = worse-good (mark_of ds (Lit s m)) Good (good m) refl

  two : (m n : ℕ) → AreWellSorted ds (Cons (Lit s m) (Cons (Lit s n) Nil))
  two m n = worse-good (mark_of ds (Lit s m)) _ (good m) (one n)

  three : (m n k : ℕ) → AreWellSorted ds (Cons (Lit s m) (Cons (Lit s n) (Cons (Lit s k) Nil)))
  three m n k = worse-good (mark_of ds (Lit s m)) _ (good m) (two n k)

  four : (m n k l : ℕ) → AreWellSorted ds (Cons (Lit s m) (Cons (Lit s n) (Cons (Lit s k) (Cons (Lit s l) Nil))))
  four m n k l = worse-good (mark_of ds (Lit s m)) _ (good m) (three n k l)

  first : IsLess (Lit s 0) (Lit s 1)
  first = row zero_lt_one s [] has-zero_lt_one (record { known = known; needs = rw ordered refl; sorts = refl; trees = refl }) none

  same : (n : ℕ) → IsAtMost (Lit s n) (Lit s n)
  same n = row le_refl s (Lit s n ∷ []) has-le_refl (record { known = known; needs = rw order refl; sorts = refl; trees = one n }) none

  weaker : (m n : ℕ) → IsLess (Lit s m) (Lit s n) → IsAtMost (Lit s m) (Lit s n)
  weaker m n d = row le_of_lt s (Lit s m ∷ Lit s n ∷ []) has-le_of_lt (record { known = known; needs = rw order refl; sorts = refl; trees = two m n }) (more _ _ d none)

  through : (m n k : ℕ) → IsLess (Lit s m) (Lit s n) → IsLess (Lit s n) (Lit s k) → IsLess (Lit s m) (Lit s k)
  through m n k d e = row lt_trans s (Lit s m ∷ Lit s n ∷ Lit s k ∷ []) has-lt_trans (record { known = known; needs = rw order refl; sorts = refl; trees = three m n k }) (more _ _ d (more _ _ e none))

  sums : (n : ℕ) → IsLess (sum_tree s (Lit s 0) (Lit s n)) (sum_tree s (Lit s 1) (Lit s n))
  sums n =
      row add_lt_add_le s (Lit s 0 ∷ Lit s 1 ∷ Lit s n ∷ Lit s n ∷ []) has-add_lt_add_le
      (record { known = known; needs = rw ordered refl; sorts = refl; trees = four 0 1 n n }) (more _ _ first (more _ _ (same n) none))

  none_more : (n : ℕ) → 0 + n ≡ n
  none_more n = omega arith

  one_more : (n : ℕ) → 1 + n ≡ suc n
  one_more n = omega arith

  -- 0 + n < 1 + n, with both sums computed
  next : (n : ℕ) → IsLess (Lit s n) (Lit s (suc n))
  next n =
      substitution Lt s (sum_tree s (Lit s 0) (Lit s n)) (sum_tree s (Lit s 1) (Lit s n)) (Lit s n) (Lit s (suc n)) (sums n)
      (subst (λ k. Derivable ds given (equal (sum_tree s (Lit s 0) (Lit s n)) (Lit s k))) (none_more n) (literal_sum ds given s known ring 0 n))
      (subst (λ k. Derivable ds given (equal (sum_tree s (Lit s 1) (Lit s n)) (Lit s k))) (one_more n) (literal_sum ds given s known ring 1 n))

  further : (m d : ℕ) → suc (suc (d + m)) ≡ suc (suc d + m)
  further m d = omega arith

  above : (m d : ℕ) → IsLess (Lit s m) (Lit s (suc (d + m)))
  above m zero = subst (λ k. IsLess (Lit s m) (Lit s (suc k))) (sym (none_more m)) (next m)
  above m (suc d) = subst (λ k. IsLess (Lit s m) (Lit s k)) (further m d) (through m (suc (d + m)) (suc (suc (d + m))) (above m d) (next (suc (d + m))))

  pub literal_less : (m n : ℕ) → m < n → IsLess (Lit s m) (Lit s n)
  literal_less m n l =
      let e : suc ((n - suc m) + m) ≡ n = omega (arith, l) in
      subst (λ k. IsLess (Lit s m) (Lit s k)) e (above m (n - suc m))

  at_most-by : (m n d : ℕ) → d + m ≡ n → IsAtMost (Lit s m) (Lit s n)
  at_most-by m n zero e = subst (λ k. IsAtMost (Lit s m) (Lit s k)) (sym (none_more m) ∙ e) (same m)
  at_most-by m n (suc d) e =
      let f : suc (d + m) ≡ n = omega (arith, e) in
      subst (λ k. IsAtMost (Lit s m) (Lit s k)) f (weaker m (suc (d + m)) (above m d))

  pub literal_at_most : (m n : ℕ) → m ≤ n → IsAtMost (Lit s m) (Lit s n)
  literal_at_most m n l = at_most-by m n (n - m) (omega (arith, l))
