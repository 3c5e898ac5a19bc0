-- Digits behind a value that is too great come to none.
use Rattle.std.proofs.Common.{◌≡◌, ℕ, ◌+◌, ◌-◌, ◌*◌, ◌<◌, List, [], ◌∷◌, Bool, true, false, None, Some, refl, ap, sym, ◌∙◌, arith}
use Rattle.std.specs.Prelude.{if◌then◌else◌}
use Rattle.std.proofs.lemmas.Bool.{lt-leb}
use Rattle.alg_words.specs.Counts.{is_digit, digits_value, at_most}

by_digit : (d : Bool) (n b : ℕ) (bs : List ℕ) → (None ≡ at_most 10000 (digits_value (n * 10 + (b - 48)) bs)) → None ≡ at_most 10000 (if d then digits_value (n * 10 + (b - 48)) bs else None)
by_digit true n b bs h = h
by_digit false n b bs h = refl

pub past_stays : (n : ℕ) (bs : List ℕ) → 10000 < n → None ≡ at_most 10000 (digits_value n bs)
past_stays n [] l = sym (ap (λ b. if b then Some n else None) (lt-leb n 10000 l))
past_stays n (b ∷ bs) l = by_digit (is_digit b) n b bs (past_stays (n * 10 + (b - 48)) bs (omega (arith, l)))
