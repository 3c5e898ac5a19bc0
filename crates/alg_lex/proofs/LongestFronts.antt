-- The longest front that passes a test.
use Rattle.std.proofs.Common.{◌≡◌, ℕ, zero, suc, ◌≤◌, ◌<◌, List, [], ◌∷◌, length, take, Bool, true, false, ◌&&◌, refl, ap, ◌∙◌, arith, cond}
use Rattle.alg_lex.specs.Longest.{longer, longest, IsLongest}

with_front : (p : List ℕ → Bool) (c : ℕ) (cs : List ℕ) (n : ℕ) (alone : Bool) → p (c ∷ []) ≡ alone → IsLongest (λ front. p (c ∷ front)) cs n → IsLongest p (c ∷ cs) (longer n alone)
with_front p c cs (suc n) alone e h = record { fits = (let k = h.fits in omega arith); passes = λ _. h.passes (omega arith); no_longer = beyond }
  where
    beyond : (m : ℕ) → suc (suc n) < m → m ≤ length (c ∷ cs) → p (take m (c ∷ cs)) ≡ false
    beyond zero a b = absurd (omega arith)
    beyond (suc m) a b = h.no_longer m (omega arith) (omega arith)
with_front p c cs zero true e h = record { fits = omega arith; passes = λ _. e; no_longer = beyond }
  where
    beyond : (m : ℕ) → 1 < m → m ≤ length (c ∷ cs) → p (take m (c ∷ cs)) ≡ false
    beyond zero a b = absurd (omega arith)
    beyond (suc m) a b = h.no_longer m (omega arith) (omega arith)
with_front p c cs zero false e h = record { fits = omega arith; passes = λ k. absurd (omega arith); no_longer = beyond }
  where
    beyond : (m : ℕ) → 0 < m → m ≤ length (c ∷ cs) → p (take m (c ∷ cs)) ≡ false
    beyond zero a b = absurd (omega arith)
    beyond (suc zero) a b = e
    beyond (suc (suc m)) a b = h.no_longer (suc m) (omega arith) (omega arith)

pub longest_is : (p : List ℕ → Bool) (cs : List ℕ) → IsLongest p cs (longest p cs)
longest_is p [] = record { fits = omega arith; passes = λ k. absurd (omega arith); no_longer = λ m a b. absurd (omega arith) }
longest_is p (c ∷ cs) = with_front p c cs _ _ refl (longest_is (λ front. p (c ∷ front)) cs)

pub longest_same : (p q : List ℕ → Bool) → ((front : List ℕ) → p front ≡ q front) → (cs : List ℕ) → longest p cs ≡ longest q cs
longest_same p q h [] = refl
longest_same p q h (c ∷ cs) =
    ap (λ n. longer n (p (c ∷ []))) (longest_same _ (λ front. q (c ∷ front)) (λ front. h (c ∷ front)) cs)
    ∙ ap (longer (longest (λ front. q (c ∷ front)) cs)) (h (c ∷ []))

-- the tests need agree only behind this first character
pub longest_behind : (p q : List ℕ → Bool) (c : ℕ) → ((front : List ℕ) → p (c ∷ front) ≡ q (c ∷ front)) → (cs : List ℕ) → longest p (c ∷ cs) ≡ longest q (c ∷ cs)
longest_behind p q c h cs =
    ap (λ n. longer n (p (c ∷ []))) (longest_same _ (λ front. q (c ∷ front)) h cs)
    ∙ ap (longer (longest (λ front. q (c ∷ front)) cs)) (h [])

pub longest_none : (p : List ℕ → Bool) → ((c : ℕ) (front : List ℕ) → p (c ∷ front) ≡ false) → (cs : List ℕ) → longest p cs ≡ 0
longest_none p h [] = refl
longest_none p h (c ∷ cs) =
    ap (λ n. longer n (p (c ∷ []))) (longest_none (λ front. p (c ∷ front)) (λ d front. h c (d ∷ front)) cs) ∙ ap (longer 0) (h c [])

pub longer-true : (n : ℕ) → longer n true ≡ suc n
longer-true zero = refl
longer-true (suc n) = refl

-- a character that has to pass, before what has to pass behind it
pub longest_step : (v : Bool) (p : List ℕ → Bool) (cs : List ℕ) (n : ℕ) → p [] ≡ true → longest p cs ≡ n → longer (longest (λ front. v && p front) cs) (v && p []) ≡ cond v (suc n) 0
longest_step true p cs n e h = ap (λ k. longer k (p [])) h ∙ (ap (longer n) e ∙ longer-true n)
longest_step false p cs n e h = ap (λ k. longer k false) (longest_none (λ front. false) (λ c front. refl) cs)
