-- The trees of fractions that aren't below 0, by their denominators.
use Rattle.std.proofs.Common.{◌≡◌, ℕ, ◌*◌, ◌<◌, arith, refl, ap, ap₂, sym, ◌∙◌, subst}
use Rattle.alg_terms.specs.declared.sorts.Sort.{Sort}
use Rattle.alg_terms.specs.Tree.{Tree, Lit, product_tree}
use Rattle.alg_rows.specs.Operations.{quotient_tree}
use Rattle.alg_fractions.specs.NumeralTree.{over_denominator, ratio_tree, size_tree}
use Rattle.alg_fractions.proofs.SizeLemmas.{over-one, over-more}
use Rattle.alg_fraction_products.proofs.ProductNumbers.{left-one, right-one}

-- products with 1

pub one-times : (d e : ℕ) → d ≡ 1 → d * e ≡ e
one-times d e h =
    let k : d * e ≡ 1 * e = ap (λ (x : ℕ). x * e) h in
    omega (arith, k)

pub times-one : (d e : ℕ) → e ≡ 1 → d * e ≡ d
times-one d e h =
    let k : d * e ≡ d * 1 = ap (λ (x : ℕ). d * x) h in
    omega (arith, k)

-- both sides of `n / d * (m / e) = n * m / (d * e)`
module _ (s : Sort) (n d m e : ℕ) where
  pub first-whole : d ≡ 1 → size_tree s (n * m) (d * e) ≡ size_tree s (n * m) e
  first-whole h = ap (λ (x : ℕ). size_tree s (n * m) x) (one-times d e h)

  pub second-whole : (d ≡ 1 → ⊥) → e ≡ 1 → size_tree s (n * m) (d * e) ≡ ratio_tree s (n * m) d
  second-whole h k = ap (λ (x : ℕ). size_tree s (n * m) x) (times-one d e k) ∙ over-more s (Lit s (n * m)) d h

  pub both-ratios : 0 < d → 0 < e → (d ≡ 1 → ⊥) → size_tree s (n * m) (d * e) ≡ ratio_tree s (n * m) (d * e)
  both-ratios i j h = over-more s (Lit s (n * m)) (d * e) (λ k. h (left-one d e i j k))

-- both sides of `n * g / (d * k) * (m * k / (e * g)) = n / e * (m / d)`
abbrev pub uncrossed : Sort → ℕ → ℕ → ℕ → ℕ → ℕ → ℕ → Tree
uncrossed s n d m e g k = product_tree s (size_tree s (n * g) (d * k)) (size_tree s (m * k) (e * g))

abbrev pub crossed_tree : Sort → ℕ → ℕ → ℕ → ℕ → Tree
crossed_tree s n d m e = product_tree s (size_tree s n e) (size_tree s m d)

module _ (s : Sort) (n d m e g k : ℕ) (i : 0 < d) (j : 0 < e) (l : 0 < g) (o : 0 < k) (c : g ≡ 1 → k ≡ 1 → ⊥) where
  pub whole-by : d * k ≡ 1 → uncrossed s n d m e g k ≡ product_tree s (Lit s (n * g)) (ratio_tree s m (e * g))
  whole-by h =
      let u : k ≡ 1 = right-one d k i o h in
      ap₂ (λ x y. product_tree s x y)
      (over-one s (Lit s (n * g)) (d * k) h)
      (over-more s (Lit s (m * k)) (e * g) (λ w. c (right-one e g j l w) u) ∙ ap (λ (x : ℕ). ratio_tree s x (e * g)) (times-one m k u))

  pub whole-by_crossed : d * k ≡ 1 → crossed_tree s n d m e ≡ product_tree s (size_tree s n e) (Lit s m)
  whole-by_crossed h = ap (λ (x : Tree). product_tree s (size_tree s n e) x) (over-one s (Lit s m) d (left-one d k i o h))

  pub by-whole : e * g ≡ 1 → uncrossed s n d m e g k ≡ product_tree s (ratio_tree s n (d * k)) (Lit s (m * k))
  by-whole h =
      let u : g ≡ 1 = right-one e g j l h in
      ap₂ (λ x y. product_tree s x y)
      (over-more s (Lit s (n * g)) (d * k) (λ w. c u (right-one d k i o w)) ∙ ap (λ (x : ℕ). ratio_tree s x (d * k)) (times-one n g u))
      (over-one s (Lit s (m * k)) (e * g) h)

  pub by-whole_crossed : e * g ≡ 1 → crossed_tree s n d m e ≡ product_tree s (Lit s n) (size_tree s m d)
  by-whole_crossed h = ap (λ (x : Tree). product_tree s x (size_tree s m d)) (over-one s (Lit s n) e (left-one e g j l h))

  pub both-uncrossed : (d * k ≡ 1 → ⊥) → (e * g ≡ 1 → ⊥) → uncrossed s n d m e g k ≡ product_tree s (ratio_tree s (n * g) (d * k)) (ratio_tree s (m * k) (e * g))
  both-uncrossed h w = ap₂ (λ x y. product_tree s x y) (over-more s (Lit s (n * g)) (d * k) h) (over-more s (Lit s (m * k)) (e * g) w)
