-- Two sorted sums while they are merged.
use Rattle.std.specs.Prelude.{◌≡◌, ℕ, ◌<◌, ◌≤◌, List, length, take, get_or, ◌++◌}
use Rattle.alg_terms.specs.declared.sorts.Sort.{Sort}
use Rattle.alg_terms.specs.Tree.{Tree, sum_tree}
use Rattle.alg_expr.specs.declared.ids.ExprId.{ExprId}
use Rattle.alg_num.specs.Fraction.{Fraction}
use Rattle.alg_proof.specs.Steps.{Theory}
use Rattle.alg_build.specs.Book.{Book, Grows, Proves}
use Rattle.alg_build.specs.Rewriting.{Stands}
use Rattle.alg_sums.specs.Rational.{rational}
use Rattle.alg_sums.specs.Sum.{IsNormal, normal_of}
use Rattle.alg_monomials.specs.declared.monomials.Monomial.{Monomial}
use Rattle.alg_monomials.specs.declared.terms.Term.{Term}
use Rattle.alg_monomials.specs.Monomials.{monomial_order, AreMeasured}
use Rattle.alg_monomials.specs.Terms.{no_term, key_at, all_meant, AreMerged}
use Rattle.alg_sorted_sums.specs.Writing.{Writing}
use Rattle.alg_sorted_sums.specs.Sums.{AreKeys, IsSum, sum_of}

-- terms of one monomial have a sum of coefficients
pub record CanAddAll (can_add : Theory → Sort → Fraction → Fraction → Type 0) (t : Theory) (s : Sort) (table : List Monomial) (p q : List Term) : Type 0 where
  pub each : (i j : ℕ) → i < length p → j < length q → key_at table p i ≡ key_at table q j → can_add t s (get_or p i no_term).value (get_or q j no_term).value

-- two sorted sums over one table
pub record BothSums (w : Writing) (b : Book) (s : Sort) (keys : List Tree) (table : List Monomial) (z : ExprId) (p q : List Term) : Type 0 where
  pub keys_stand : AreKeys b s keys table
  pub left : IsSum w b s keys table z p
  pub right : IsSum w b s keys table z q
  pub left_normal : IsNormal rational monomial_order (all_meant w.meaning table p)
  pub right_normal : IsNormal rational monomial_order (all_meant w.meaning table q)

pub record AreSums (w : Writing) (b : Book) (s : Sort) (table : List Monomial) (z : ExprId) (p q : List Term) : Type 0 where
  pub keys : List Tree
  pub both : BothSums w b s keys table z p q

-- the first i terms of p and the first j of q give these terms, whose tree has this id, and the line says so
pub record IsMerging (w : Writing) (b : Book) (s : Sort) (keys : List Tree) (table : List Monomial) (z : ExprId) (p q done : List Term) (i j : ℕ) (d : ExprId) (n : ℕ) : Type 0 where
  pub keys_stand : AreKeys b s keys table
  pub left : IsSum w b s keys table z p
  pub right : IsSum w b s keys table z q
  pub left_in : i ≤ length p
  pub right_in : j ≤ length q
  pub done_sum : IsSum w b s keys table z done
  pub stands : Stands b s d (sum_of w s keys done)
  pub merged : AreMerged w.meaning table p q done i j
  pub line : Proves b n (sum_tree s (sum_of w s keys (take i p)) (sum_of w s keys (take j q))) (sum_of w s keys done)

pub record AreMerging (w : Writing) (b : Book) (s : Sort) (table : List Monomial) (z : ExprId) (p q done : List Term) (i j : ℕ) (d : ExprId) (n : ℕ) : Type 0 where
  pub keys : List Tree
  pub merging : IsMerging w b s keys table z p q done i j d n

-- all that is known while two sums are merged
pub record IsUnderWay (w : Writing) (a b : Book) (s : Sort) (table : List Monomial) (z : ExprId) (p q done : List Term) (i j : ℕ) (d : ExprId) (n : ℕ) : Type 0 where
  pub grows : Grows a b
  pub merging : (keys : List Tree) → BothSums w a s keys table z p q → IsMerging w b s keys table z p q done i j d n

-- the sorted sum of two, with the line that says so
pub record IsSumOf (w : Writing) (b : Book) (s : Sort) (keys : List Tree) (table : List Monomial) (z : ExprId) (p q done : List Term) (d : ExprId) (n : ℕ) : Type 0 where
  pub sum : IsSum w b s keys table z done
  pub stands : Stands b s d (sum_of w s keys done)
  pub map : all_meant w.meaning table done ≡ normal_of rational monomial_order (all_meant w.meaning table p ++ all_meant w.meaning table q)
  pub line : Proves b n (sum_tree s (sum_of w s keys p) (sum_of w s keys q)) (sum_of w s keys done)
