-- The order of monomials, factor by factor.
use Rattle.std.proofs.Common.{◌≡◌, ℕ, zero, suc, ◌<◌, ◌≤◌, ◌+◌, ◌≢◌, List, [], ◌∷◌, length, get_or, drop, refl, ap, ◌∙◌, arith, add-one, Ordering, Less, Equal, Greater}
use Rattle.std.proofs.Math.Seq.{drop-cons}
use Rattle.std.specs.Ordering.{match_ordering, ordering_then, ordering_reverse, nat_cmp}
use Rattle.std.specs.Cmp.{nat_cmp_total}
use Rattle.std.specs.FinMap.{nat_cmp-IsAntisymmetric}
use Rattle.alg_sums.specs.Monomial.{by_exponents}
use Rattle.alg_sums.specs.Sum.{IsStrict}
use Rattle.alg_sums.proofs.Monomials.{monomial_cmp-IsStrict}
use Rattle.alg_monomials.specs.declared.monomials.Factor.{Factor}
use Rattle.alg_monomials.specs.Monomials.{powers, factor_order, monomial_order}

-- ---- the order is strict and total

pub nat_cmp-IsStrict : IsStrict nat_cmp
nat_cmp-IsStrict = record { total = nat_cmp_total; ties = nat_cmp-IsAntisymmetric }

pub monomial_order-IsStrict : IsStrict monomial_order
monomial_order-IsStrict = monomial_cmp-IsStrict nat_cmp nat_cmp-IsStrict

pub order_ties : (x y : List (ℕ × ℕ)) → monomial_order x y ≡ Equal → x ≡ y
order_ties x y e = monomial_order-IsStrict.ties x y e

pub order_turned : (x y : List (ℕ × ℕ)) → monomial_order x y ≡ Greater → monomial_order y x ≡ Less
order_turned x y e = monomial_order-IsStrict.total.antisymm y x ∙ ap ordering_reverse e

-- ---- factor by factor

no_factor : Factor
no_factor = record { atom = 0; exponent = 0 }

drop-past : (xs : List Factor) (k : ℕ) → length xs ≤ k → drop k xs ≡ []
drop-past [] zero h = refl
drop-past [] (suc k) h = refl
drop-past (x ∷ xs) zero h = absurd (omega arith)
drop-past (x ∷ xs) (suc k) h = drop-past xs k (omega arith)

both_orders : (o p r : Ordering) → match_ordering o Less (ordering_then p r) Greater ≡ ordering_then (ordering_then o p) r
both_orders Less p r = refl
both_orders Equal p r = refl
both_orders Greater p r = refl

by_factor : (f g : Factor) (fs gs : List Factor) → by_exponents nat_cmp (powers (f ∷ fs)) (powers (g ∷ gs)) ≡ ordering_then (factor_order f g) (by_exponents nat_cmp (powers fs) (powers gs))
by_factor f g fs gs = both_orders (nat_cmp f.atom g.atom) (nat_cmp g.exponent f.exponent) (by_exponents nat_cmp (powers fs) (powers gs))

abbrev pub rests : List Factor → List Factor → ℕ → Ordering
rests xs ys k = by_exponents nat_cmp (powers (drop k xs)) (powers (drop k ys))

module _ (xs ys : List Factor) (k : ℕ) where
  pub one_more : (f g : Factor) → k < length xs → k < length ys → get_or xs k f ≡ f → get_or ys k g ≡ g → factor_order f g ≡ Equal → rests xs ys k ≡ rests xs ys (k + 1)
  one_more f g h l p q e = rw (add-one, drop-cons xs k f h, drop-cons ys k g l, p, q) (by_factor f g (drop (suc k) xs) (drop (suc k) ys) ∙ ap (λ o. ordering_then o (rests xs ys (suc k))) e)

  pub decided : (f g : Factor) → k < length xs → k < length ys → get_or xs k f ≡ f → get_or ys k g ≡ g → (o : Ordering) → o ≡ factor_order f g → o ≢ Equal → rests xs ys k ≡ o
  decided f g h l p q o e n = rw (drop-cons xs k f h, drop-cons ys k g l, p, q) (by_factor f g (drop (suc k) xs) (drop (suc k) ys) ∙ rw (← e) (first o n (rests xs ys (suc k))))
    where
      first : (o : Ordering) → o ≢ Equal → (r : Ordering) → ordering_then o r ≡ o
      first Less n r = refl
      first Equal n r = absurd (n refl)
      first Greater n r = refl

  pub ends_left : length xs ≤ k → k < length ys → rests xs ys k ≡ Greater
  ends_left h l = rw (drop-past xs k h, drop-cons ys k no_factor l) refl

  pub ends_right : k < length xs → length ys ≤ k → rests xs ys k ≡ Less
  ends_right h l = rw (drop-past ys k l, drop-cons xs k no_factor h) refl

  pub ends_both : length xs ≤ k → length ys ≤ k → rests xs ys k ≡ Equal
  ends_both h l = rw (drop-past xs k h, drop-past ys k l) refl

pub ruleset ordered = (one_more, decided, ends_left, ends_right, ends_both, order_ties, order_turned)
