-- Factorials and Fibonacci's numbers grow.
use Rattle.std.proofs.Common.{◌≡◌, ℕ, zero, suc, ◌+◌, ◌*◌, ◌-◌, ◌<◌, ◌≤◌, arith, refl, ap, subst, add-one}
use Rattle.alg_law.specs.LeanFunctions.{factorial, fibonacci}

pub factorial-suc : (n : ℕ) → factorial (suc n) ≡ suc n * factorial n
unfolding factorial
factorial-suc n = refl

pub factorial-zero : factorial 0 ≡ 1
unfolding factorial
factorial-zero = refl

grows_by : (n d : ℕ) → factorial n ≤ factorial (n + d)
grows_by n zero = let e : n + 0 ≡ n = omega arith in rw e (omega arith)
grows_by n (suc d) =
    let e : n + suc d ≡ suc (n + d) = omega arith in
    rw (e, factorial-suc) (omega (arith, grows_by n d))

pub factorial-grows : (m n : ℕ) → m ≤ n → factorial m ≤ factorial n
factorial-grows m n h = let e : m + (n - m) ≡ n = omega arith in subst (λ k. factorial m ≤ factorial k) e (grows_by m (n - m))

pub factorial-next : (n v : ℕ) → v ≡ factorial n → (n + 1) * v ≡ factorial (n + 1)
factorial-next n v e =
    let f : (n + 1) * v ≡ (n + 1) * factorial n = ap (λ m. (n + 1) * m) e in
    rw add-one (omega (arith, f, factorial-suc n))

-- no factorial after one past the limit is within it
pub factorial-past : (limit n i v : ℕ) → i < n → v ≡ factorial i → ((i + 1) * v < limit → ⊥) → factorial n < limit → ⊥
factorial-past limit n i v h e p q =
    p (omega (arith, factorial-next i v e, factorial-grows (i + 1) n (omega arith)))

pub fibonacci-suc : (n : ℕ) → fibonacci (suc (suc n)) ≡ fibonacci n + fibonacci (suc n)
unfolding fibonacci
fibonacci-suc n = refl

pub fibonacci-zero : fibonacci 0 ≡ 0
unfolding fibonacci
fibonacci-zero = refl

pub fibonacci-one : fibonacci 1 ≡ 1
unfolding fibonacci
fibonacci-one = refl

grows_once : (n : ℕ) → fibonacci n ≤ fibonacci (suc n)
grows_once zero = omega (arith, fibonacci-zero)
grows_once (suc n) = omega (arith, fibonacci-suc n)

rises_by : (n d : ℕ) → fibonacci n ≤ fibonacci (n + d)
rises_by n zero = let e : n + 0 ≡ n = omega arith in rw e (omega arith)
rises_by n (suc d) =
    let e : n + suc d ≡ suc (n + d) = omega arith in
    rw e (omega (arith, rises_by n d, grows_once (n + d)))

pub fibonacci-grows : (m n : ℕ) → m ≤ n → fibonacci m ≤ fibonacci n
fibonacci-grows m n h = let e : m + (n - m) ≡ n = omega arith in subst (λ k. fibonacci m ≤ fibonacci k) e (rises_by m (n - m))

pub fibonacci-next : (n a b : ℕ) → b ≡ fibonacci n → a + b ≡ fibonacci (suc n) → b + (a + b) ≡ fibonacci (suc (n + 1))
fibonacci-next n a b e f = rw add-one (omega (arith, e, f, fibonacci-suc n))

-- nor is any Fibonacci number
pub fibonacci-past : (limit n i a b : ℕ) → i < n → a + b ≡ fibonacci (suc i) → (a + b < limit → ⊥) → fibonacci n < limit → ⊥
fibonacci-past limit n i a b h e p q = p (omega (arith, e, fibonacci-grows (suc i) n h))
