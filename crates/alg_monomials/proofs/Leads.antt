-- The terms of one sum that come before the first of another.
use Rattle.std.proofs.Common.{◌≡◌, ℕ, suc, ◌+◌, ◌<◌, List, length, arith, ◌⊎◌, inl, inr, Less}
use Rattle.alg_monomials.specs.declared.monomials.Monomial.{Monomial}
use Rattle.alg_monomials.specs.declared.terms.Term.{Term}
use Rattle.alg_monomials.specs.Monomials.{monomial_order}
use Rattle.alg_monomials.specs.Terms.{key_at, ComeBefore}

pub none_before : (table : List Monomial) (p q : List Term) → ComeBefore table p q 0
none_before table p q = record { before = λ l m n. absurd (omega (arith, n)) }

pub no_others : (table : List Monomial) (p q : List Term) (k : ℕ) → length q ≡ 0 → ComeBefore table p q k
no_others table p q k e = record { before = λ l m n. absurd (omega (arith, l, e)) }

pub one_more_before : (table : List Monomial) (p q : List Term) (k : ℕ) → ComeBefore table p q k → monomial_order (key_at table p k) (key_at table q 0) ≡ Less → ComeBefore table p q (k + 1)
one_more_before table p q k h e = record { before = λ l m n. pick m l (below m k (omega (arith, n))) }
  where
    below : (m k : ℕ) → m < suc k → (m < k) ⊎ (m ≡ k)
    below m k h = grind arith

    pick : (m : ℕ) → 0 < length q → (m < k) ⊎ (m ≡ k) → monomial_order (key_at table p m) (key_at table q 0) ≡ Less
    pick m l (inl n) = h.before l m n
    pick m l (inr n) = rw n e

pub ruleset leads = (none_before, no_others, one_more_before)
