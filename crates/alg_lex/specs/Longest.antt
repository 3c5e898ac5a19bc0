-- The longest front of a text that passes a test.
use Rattle.std.specs.Prelude.{◌≡◌, ℕ, zero, suc, ◌<◌, ◌≤◌, List, [], ◌∷◌, length, take, Bool, true, false}

-- one more than the longest front of the rest, or else the first character alone
abbrev pub longer : ℕ → Bool → ℕ
longer (suc n) alone = suc (suc n)
longer zero true = 1
longer zero false = 0

-- the length of the longest front that passes and isn't empty, or 0
abbrev pub longest : (List ℕ → Bool) → List ℕ → ℕ
longest p [] = 0
longest p (c ∷ cs) = longer (longest (λ front. p (c ∷ front)) cs) (p (c ∷ []))

-- The first n characters pass, and no more of them do.
pub record IsLongest (p : List ℕ → Bool) (text : List ℕ) (n : ℕ) : Type 0 where
  pub fits : n ≤ length text
  pub passes : 0 < n → p (take n text) ≡ true
  pub no_longer : (m : ℕ) → n < m → m ≤ length text → p (take m text) ≡ false
