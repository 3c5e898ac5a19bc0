-- When trees made of well sorted parts are well sorted.
use Rattle.std.specs.Prelude.{◌≡◌, ℕ, Bool, true, false, if◌then◌else◌, nat_eq, List, [], ◌∷◌, refl, slice_get}
use Rattle.std.proofs.Common.{ap}
use Rattle.alg_terms.specs.declared.sorts.Sort.{Sort}
use Rattle.alg_terms.specs.declared.symbols.Sym.TheVariants.{Add, Mul}
use Rattle.alg_terms.specs.Tree.{Tree, Lit, Var, App, sort_of_tree, sum_tree, product_tree}
use Rattle.alg_terms.proofs.OrderLaws.{sort_same-self}
use Rattle.alg_law.specs.declared.classes.Class.TheVariants.{Semigroup, Monoid, AddMonoid, AddCommMonoid, Semiring}
use Rattle.alg_law.specs.declared.marks.Mark.{Mark}
use Rattle.alg_law.specs.declared.marks.Mark.TheVariants.{Good, NoInstance, BadSort, BadName}
use Rattle.alg_law.specs.Declarations.{Declaration}
use Rattle.alg_law.specs.Having.{has_class}
use Rattle.alg_law.proofs.HavingLaws.{has_class-implied}
use Rattle.alg_law.specs.WellSorted.{worse, sort_mark, literal_class, class_mark, head_mark, symbol_mark, of_sort, variable_of, mark_of, marks_of, sorts_of, IsWellSorted}

pub worse-good : (a b : Mark) → a ≡ Good → b ≡ Good → worse a b ≡ Good
worse-good a b p q = rw (p, q) refl

pub worse-parts : (a b : Mark) → worse a b ≡ Good → (a ≡ Good) × (b ≡ Good)
worse-parts Good b e = (refl, e)
worse-parts NoInstance Good e = cc
worse-parts NoInstance NoInstance e = cc
worse-parts NoInstance BadSort e = cc
worse-parts NoInstance BadName e = cc
worse-parts BadSort Good e = cc
worse-parts BadSort NoInstance e = cc
worse-parts BadSort BadSort e = cc
worse-parts BadSort BadName e = cc
worse-parts BadName b e = cc

-- the sort of a well sorted tree is known
pub known-from_good : (ds : List Declaration) (x : Tree) → IsWellSorted ds x → sort_mark ds (sort_of_tree x) ≡ Good
known-from_good ds (Lit s n) e = (worse-parts (sort_mark ds s) (class_mark (has_class ds s (literal_class n))) e).0
known-from_good ds (Var d s) e = (worse-parts (sort_mark ds s) (of_sort (variable_of (slice_get ds d)) s) e).0
known-from_good ds (App f s xs) e =
    let h = worse-parts (head_mark ds f s (sorts_of xs)) (marks_of ds xs) e in
    (worse-parts (sort_mark ds s) (symbol_mark ds f s (sorts_of xs)) h.0).0

module _ (ds : List Declaration) (s : Sort) (known : sort_mark ds s ≡ Good) (ring : has_class ds s Semiring ≡ true) where
  pub semiring-add_comm : has_class ds s AddCommMonoid ≡ true
  semiring-add_comm = has_class-implied ds s Semiring AddCommMonoid refl ring

  pub semiring-add : has_class ds s AddMonoid ≡ true
  semiring-add = has_class-implied ds s AddCommMonoid AddMonoid refl semiring-add_comm

  pub semiring-one : has_class ds s Monoid ≡ true
  semiring-one = has_class-implied ds s Semiring Monoid refl ring

  pub semiring-mul : has_class ds s Semigroup ≡ true
  semiring-mul = has_class-implied ds s Monoid Semigroup refl semiring-one

  has_one_of : (b c : Bool) → has_class ds s (if b then AddMonoid else (if c then Monoid else Semiring)) ≡ true
  has_one_of true c = semiring-add
  has_one_of false true = semiring-one
  has_one_of false false = ring

  -- a semiring has every literal
  pub literal-good : (n : ℕ) → IsWellSorted ds (Lit s n)
  literal-good n = worse-good (sort_mark ds s) _ known (ap class_mark (has_one_of (nat_eq n 0) (nat_eq n 1)))

  sum_head-good : (t u : Sort) → t ≡ s → u ≡ s → head_mark ds Add s (t ∷ u ∷ []) ≡ Good
  sum_head-good t u p q = rw (p, q, known, sort_same-self s, semiring-add) refl

  -- and sums and products of its trees
  pub sum-good : (x y : Tree) → sort_of_tree x ≡ s → sort_of_tree y ≡ s → IsWellSorted ds x → IsWellSorted ds y → IsWellSorted ds (sum_tree s x y)
  sum-good x y p q g h =
      worse-good (head_mark ds Add s (sort_of_tree x ∷ sort_of_tree y ∷ [])) _ (sum_head-good (sort_of_tree x) (sort_of_tree y) p q)
      (worse-good (mark_of ds x) _ g (worse-good (mark_of ds y) Good h refl))

  product_head-good : (t u : Sort) → t ≡ s → u ≡ s → head_mark ds Mul s (t ∷ u ∷ []) ≡ Good
  product_head-good t u p q = rw (p, q, known, sort_same-self s, semiring-mul) refl

  pub product-good : (x y : Tree) → sort_of_tree x ≡ s → sort_of_tree y ≡ s → IsWellSorted ds x → IsWellSorted ds y → IsWellSorted ds (product_tree s x y)
  product-good x y p q g h =
      worse-good (head_mark ds Mul s (sort_of_tree x ∷ sort_of_tree y ∷ [])) _ (product_head-good (sort_of_tree x) (sort_of_tree y) p q)
      (worse-good (mark_of ds x) _ g (worse-good (mark_of ds y) Good h refl))
