-- The coefficients of a tree are whole over its denominator, and sum to at most its weight.
use Rattle.std.proofs.Common.{◌≡◌, ℕ, zero, suc, ◌*◌, ◌/◌, ◌^◌, List, [], ◌∷◌, ◌++◌, sym, ap, subst, ◌∙◌, arith, Option, Some, None}
use Rattle.std.specs.Int.{◌∣◌}
use Rattle.std.proofs.Math.Nat.{div-mul_cancel, dvd-mul_right, dvd-mul_left, pow-zero, pow-suc}
use Rattle.alg_num.specs.Reduced.{greatest_divisor}
use Rattle.alg_num.proofs.ReducedLaws.{IsGcd-greatest_divisor}
use Rattle.alg_law.specs.Computing.{least_multiple}
use Rattle.alg_terms.specs.declared.sorts.Sort.{Sort}
use Rattle.alg_terms.specs.declared.symbols.Sym.TheVariants.{Add, Mul, Neg, Sub, Inv, Div, Npow}
use Rattle.alg_terms.specs.Tree.{Tree, Lit, App, Nil, Cons}
use Rattle.alg_terms.specs.Order.{tree_cmp}
use Rattle.alg_sums.specs.Coefficients.{Coefficients}
use Rattle.alg_sums.specs.Monomial.{times, monomial_cmp}
use Rattle.alg_sums.specs.Size.{IsScaled, IsWithin}
use Rattle.alg_sums.specs.Sum.{negated}
use Rattle.alg_sums.proofs.Sizes.{number_scaled}
use Rattle.alg_sums.proofs.Weights.{within-append, within_times, within-negated, within-normal_of, within-products}
use Rattle.alg_expansions.specs.Setting.{Setting}
use Rattle.alg_expansions.specs.Numerals.{numeral}
use Rattle.alg_expansions.specs.Closed.{closed_value}
use Rattle.alg_expansions.specs.Expansion.{atom, product, to_power, power_or, inverse_or, inverse_of, expansion, polynomial}
use Rattle.alg_expansions.specs.NormalTree.{binary}
use Rattle.alg_expansions.specs.Weight.{raised_by, bottom_of, top_of, denominator, joined_weight, weight}

-- ---- the least common multiple is a multiple of both
regroup : (a b g x y : ℕ) → a ≡ x * g → b ≡ y * g → x * b ≡ a * y
regroup a b g x y e f = ap (λ u. x * u) f ∙ (let h : x * (y * g) ≡ x * g * y = omega arith in h) ∙ ap (λ u. u * y) (sym e)

pub second_divides : (a b : ℕ) → b ∣ least_multiple a b
second_divides a b = dvd-mul_left b (a / greatest_divisor a b)

pub first_divides : (a b : ℕ) → a ∣ least_multiple a b
first_divides a b =
    let g = greatest_divisor a b in
    let h = IsGcd-greatest_divisor a b in
    let e : (a / g) * b ≡ a * (b / g) = regroup a b g (a / g) (b / g) (sym (div-mul_cancel g h.0)) (sym (div-mul_cancel g h.1)) in
    subst (λ x. a ∣ x) (sym e) (dvd-mul_right a (b / g))

module _ {C : Type 0} (r : Coefficients C) where
  within_product : (d e : ℕ) (p q : List (List (Tree × ℕ) × C)) (w v : ℕ) → IsWithin r d p w → IsWithin r e q v → IsWithin r (d * e) (product r p q) (w * v)
  within_product d e p q w v h i = within-products r (times tree_cmp) d e p q w v h i

  number_within : (n : ℕ) → IsScaled r 1 (r.number n) n
  number_within n = subst (λ m. IsScaled r 1 (r.number n) m) (let e : n * 1 ≡ n = omega arith in e) (number_scaled r 1 n)

  one_within : IsScaled r 1 r.one 1
  one_within = subst (λ c. IsScaled r 1 c 1) r.number_one (number_within 1)

  single_within : (d : ℕ) (k : List (Tree × ℕ)) (c : C) (m : ℕ) → IsScaled r d c m → IsWithin r d ((k, c) ∷ []) m
  single_within d k c m h = (m, 0, h, tt, omega arith)

  within-to_power : (d : ℕ) (p : List (List (Tree × ℕ) × C)) (w n : ℕ) → IsWithin r d p w → IsWithin r (d ^ n) (to_power r p n) (w ^ n)
  within-to_power d p w zero h = rw (pow-zero d, pow-zero w) (single_within 1 [] r.one 1 one_within)
  within-to_power d p w (suc n) h = rw (pow-suc d n, pow-suc w n) (within_product (d ^ n) d (to_power r p n) p (w ^ n) w (within-to_power d p w n h) h)

  atom_within : (a : Tree) → IsWithin r 1 (atom r a) 1
  atom_within a = single_within 1 ((a, 1) ∷ []) r.one 1 one_within

  -- ---- trees
  scaled_within : (l d : ℕ) (p : List (List (Tree × ℕ) × C)) (m : ℕ) → d ∣ l → IsWithin r d p m → IsWithin r l p (m * (l / d))
  scaled_within l d p m e h =
      let x : (l / d) * d ≡ l = div-mul_cancel d e in
      let w : (l / d) * m ≡ m * (l / d) = omega arith in
      subst (λ v. IsWithin r l p v) w (subst (λ z. IsWithin r z p ((l / d) * m)) x (within_times r (l / d) d p m h))

  joined_within : (d e m n : ℕ) (p q : List (List (Tree × ℕ) × C)) → IsWithin r d p m → IsWithin r e q n → IsWithin r (least_multiple d e) (p ++ q) (joined_weight m d n e)
  joined_within d e m n p q h i =
      let l = least_multiple d e in
      within-append r l p q (m * (l / d)) (n * (l / e)) (scaled_within l d p m (first_divides d e) h) (scaled_within l e q n (second_divides d e) i)

  quotient_scaled : (c : C) → IsScaled r (r.bottom c) c (r.top c)
  quotient_scaled c = record { by = 1; over = omega arith; size = omega arith }

  constant_within : (a : Tree) (o : Option C) → IsWithin r (bottom_of r o) (inverse_or r a o) (top_of r o)
  constant_within a (Some c) = single_within (r.bottom (r.inverse c)) [] (r.inverse c) (r.top (r.inverse c)) (quotient_scaled (r.inverse c))
  constant_within a None = atom_within a

  power_within : (d w : ℕ) (a : Tree) (p : List (List (Tree × ℕ) × C)) (o : Option ℕ) → IsWithin r d p w → IsWithin r (raised_by d o) (power_or r a p o) (raised_by w o)
  power_within d w a p (Some c) h = within-to_power d p w c h
  power_within d w a p None h = atom_within a

  module _ (k : Setting) where
    inverse_within : (s : Sort) (b : Tree) → IsWithin r (bottom_of r (closed_value r k b)) (inverse_of r k s b) (top_of r (closed_value r k b))
    inverse_within s b = constant_within (App Inv s (Cons b Nil)) (closed_value r k b)

    -- the coefficients of a tree's terms are whole over its denominator, and sum to at most its weight
    pub expansion_within : (t : Tree) → IsWithin r (denominator r k t) (expansion r k t) (weight r k t)
    expansion_within (Lit s n) = single_within 1 [] (r.number n) n (number_within n)
    expansion_within (App Add s (Cons a (Cons b Nil))) = joined_within (denominator r k a) (denominator r k b) (weight r k a) (weight r k b) (expansion r k a) (expansion r k b) (expansion_within a) (expansion_within b)
    expansion_within (App Sub s (Cons a (Cons b Nil))) = joined_within (denominator r k a) (denominator r k b) (weight r k a) (weight r k b) (expansion r k a) (negated r (expansion r k b)) (expansion_within a) (within-negated r (denominator r k b) (expansion r k b) (weight r k b) (expansion_within b))
    expansion_within (App Neg s (Cons a Nil)) = within-negated r (denominator r k a) (expansion r k a) (weight r k a) (expansion_within a)
    expansion_within (App Mul s (Cons a (Cons b Nil))) = within_product (denominator r k a) (denominator r k b) (expansion r k a) (expansion r k b) (weight r k a) (weight r k b) (expansion_within a) (expansion_within b)
    expansion_within (App Npow s (Cons a (Cons e Nil))) = power_within (denominator r k a) (weight r k a) (binary Npow s a e) (expansion r k a) (numeral e) (expansion_within a)
    expansion_within (App Inv s (Cons b Nil)) = inverse_within s b
    expansion_within (App Div s (Cons a (Cons b Nil))) = within_product (denominator r k a) (bottom_of r (closed_value r k b)) (expansion r k a) (inverse_of r k s b) (weight r k a) (top_of r (closed_value r k b)) (expansion_within a) (inverse_within s b)
    expansion_within t = atom_within t

    -- and so are those of its polynomial
    pub polynomial_within : (t : Tree) → IsWithin r (denominator r k t) (polynomial r k t) (weight r k t)
    polynomial_within t = within-normal_of r (monomial_cmp tree_cmp) (denominator r k t) (expansion r k t) (weight r k t) (expansion_within t)
