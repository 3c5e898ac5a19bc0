-- No monomial of a tree has a greater degree than the tree.
use Rattle.std.proofs.Common.{◌≡◌, ℕ, zero, suc, ◌+◌, ◌*◌, ◌≤◌, List, [], ◌∷◌, ◌++◌, refl, arith, Option, Some, None, Ordering, Less, Equal, Greater}
use Rattle.std.specs.Prelude.{max}
use Rattle.std.specs.Ordering.{match_ordering}
use Rattle.alg_terms.specs.declared.symbols.Sym.TheVariants.{Add, Mul, Neg, Sub, Inv, Div, Npow}
use Rattle.alg_terms.specs.Tree.{Tree, Lit, App, Nil, Cons}
use Rattle.alg_terms.specs.Order.{tree_cmp}
use Rattle.alg_sums.specs.Coefficients.{Coefficients}
use Rattle.alg_sums.specs.Monomial.{times_power, times, monomial_cmp}
use Rattle.alg_sums.specs.Monomial as monomial
use Rattle.alg_sums.specs.Sum.{AllTerms, negated, scaled}
use Rattle.alg_sums.proofs.Terms.{AllTerms-append, AllTerms-normal_of}
use Rattle.alg_expansions.specs.Setting.{Setting}
use Rattle.alg_expansions.specs.Numerals.{numeral}
use Rattle.alg_expansions.specs.Closed.{closed_value}
use Rattle.alg_expansions.specs.Expansion.{atom, product, to_power, power_or, inverse_or, inverse_of, expansion, polynomial}
use Rattle.alg_expansions.specs.Weight.{times_degree, inverse_degree, degree}

-- ---- monomials
power_step : {A : Type 0} (p q : A × ℕ) (m v : List (A × ℕ)) (o : Ordering) → monomial.degree v ≡ p.1 + monomial.degree m → monomial.degree (match_ordering o (p ∷ q ∷ m) ((q.0, p.1 + q.1) ∷ m) (q ∷ v)) ≡ p.1 + (q.1 + monomial.degree m)
power_step p q m v Less h = refl
power_step p q m v Equal h = omega arith
power_step p q m v Greater h = omega (arith, h)

pub degree-times_power : {A : Type 0} (order : A → A → Ordering) (p : A × ℕ) (m : List (A × ℕ)) → monomial.degree (times_power order p m) ≡ p.1 + monomial.degree m
degree-times_power order p [] = refl
degree-times_power order p (q ∷ m) = power_step p q m (times_power order p m) (order p.0 q.0) (degree-times_power order p m)

-- degrees add
pub degree-times : {A : Type 0} (order : A → A → Ordering) (u v : List (A × ℕ)) → monomial.degree (times order u v) ≡ monomial.degree u + monomial.degree v
degree-times order [] v = omega arith
degree-times order (p ∷ u) v = omega (arith, degree-times_power order p (times order u v), degree-times order u v)

module _ {C : Type 0} (r : Coefficients C) where
  -- each monomial has at most this degree
  abbrev pub IsUpTo : ℕ → List (List (Tree × ℕ) × C) → Type 0
  IsUpTo n = AllTerms (λ (t : List (Tree × ℕ) × C). monomial.degree t.0 ≤ n)

  up_to_more : (m n : ℕ) (p : List (List (Tree × ℕ) × C)) → m ≤ n → IsUpTo m p → IsUpTo n p
  up_to_more m n [] l h = tt
  up_to_more m n (t ∷ p) l h = (omega (arith, l, h.0), up_to_more m n p l h.1)

  up_to-append : (m n l : ℕ) (p q : List (List (Tree × ℕ) × C)) → m ≤ l → n ≤ l → IsUpTo m p → IsUpTo n q → IsUpTo l (p ++ q)
  up_to-append m n l p q x y h i = AllTerms-append (λ (t : List (Tree × ℕ) × C). monomial.degree t.0 ≤ l) p q (up_to_more m l p x h) (up_to_more n l q y i)

  up_to-negated : (n : ℕ) (p : List (List (Tree × ℕ) × C)) → IsUpTo n p → IsUpTo n (negated r p)
  up_to-negated n [] h = tt
  up_to-negated n (t ∷ p) h = (h.0, up_to-negated n p h.1)

  up_to-scaled : (m n : ℕ) (t : List (Tree × ℕ) × C) (q : List (List (Tree × ℕ) × C)) → monomial.degree t.0 ≤ m → IsUpTo n q → IsUpTo (m + n) (scaled r (times tree_cmp) t q)
  up_to-scaled m n t [] h i = tt
  up_to-scaled m n t (u ∷ q) h i = (omega (arith, degree-times tree_cmp t.0 u.0, h, i.0), up_to-scaled m n t q h i.1)

  up_to-product : (m n : ℕ) (p q : List (List (Tree × ℕ) × C)) → IsUpTo m p → IsUpTo n q → IsUpTo (m + n) (product r p q)
  up_to-product m n [] q h i = tt
  up_to-product m n (t ∷ p) q h i = AllTerms-append (λ (u : List (Tree × ℕ) × C). monomial.degree u.0 ≤ m + n) (scaled r (times tree_cmp) t q) (product r p q) (up_to-scaled m n t q h.0 i) (up_to-product m n p q h.1 i)

  up_to-power : (m n : ℕ) (p : List (List (Tree × ℕ) × C)) → IsUpTo m p → IsUpTo (n * m) (to_power r p n)
  up_to-power m zero p h = (omega arith, tt)
  up_to-power m (suc n) p h = up_to_more (n * m + m) (suc n * m) (product r (to_power r p n) p) (omega arith) (up_to-product (n * m) m (to_power r p n) p (up_to-power m n p h) h)

  up_to-atom : (a : Tree) → IsUpTo 1 (atom r a)
  up_to-atom a = (omega arith, tt)

  up_to-power_or : (m : ℕ) (a : Tree) (p : List (List (Tree × ℕ) × C)) (o : Option ℕ) → IsUpTo m p → IsUpTo (times_degree m o) (power_or r a p o)
  up_to-power_or m a p (Some n) h = up_to-power m n p h
  up_to-power_or m a p None h = up_to-atom a

  up_to-inverse_or : (a : Tree) (o : Option C) → IsUpTo (inverse_degree o) (inverse_or r a o)
  up_to-inverse_or a (Some c) = (omega arith, tt)
  up_to-inverse_or a None = up_to-atom a

  module _ (k : Setting) where
    pub expansion_degree : (t : Tree) → IsUpTo (degree r k t) (expansion r k t)
    expansion_degree (Lit s n) = (omega arith, tt)
    expansion_degree (App Add s (Cons a (Cons b Nil))) = up_to-append (degree r k a) (degree r k b) (max (degree r k a) (degree r k b)) (expansion r k a) (expansion r k b) (omega arith) (omega arith) (expansion_degree a) (expansion_degree b)
    expansion_degree (App Sub s (Cons a (Cons b Nil))) = up_to-append (degree r k a) (degree r k b) (max (degree r k a) (degree r k b)) (expansion r k a) (negated r (expansion r k b)) (omega arith) (omega arith) (expansion_degree a) (up_to-negated (degree r k b) (expansion r k b) (expansion_degree b))
    expansion_degree (App Neg s (Cons a Nil)) = up_to-negated (degree r k a) (expansion r k a) (expansion_degree a)
    expansion_degree (App Mul s (Cons a (Cons b Nil))) = up_to-product (degree r k a) (degree r k b) (expansion r k a) (expansion r k b) (expansion_degree a) (expansion_degree b)
    expansion_degree (App Npow s (Cons a (Cons e Nil))) = up_to-power_or (degree r k a) (App Npow s (Cons a (Cons e Nil))) (expansion r k a) (numeral e) (expansion_degree a)
    expansion_degree (App Inv s (Cons b Nil)) = up_to-inverse_or (App Inv s (Cons b Nil)) (closed_value r k b)
    expansion_degree (App Div s (Cons a (Cons b Nil))) = up_to-product (degree r k a) (inverse_degree (closed_value r k b)) (expansion r k a) (inverse_of r k s b) (expansion_degree a) (up_to-inverse_or (App Inv s (Cons b Nil)) (closed_value r k b))
    expansion_degree t = up_to-atom t

    pub polynomial_degree : (t : Tree) → IsUpTo (degree r k t) (polynomial r k t)
    polynomial_degree t = AllTerms-normal_of r (monomial_cmp tree_cmp) (λ (u : List (Tree × ℕ) × C). monomial.degree u.0 ≤ degree r k t) (λ t u h i. i) (expansion r k t) (expansion_degree t)
