-- The values of literals.
use Rattle.std.proofs.Common.{◌≡◌, ℕ, ◌<◌, ◌≤◌, ◌^◌, List, [], ◌∷◌, length, true, Some, None, refl, sym, arith, rules, inl, inr}
use Rattle.std.specs.Prelude.{nat_lt, if◌then◌else◌, Err}
use Rattle.std.specs.List.{list_all}
use Rattle.std.specs.Str.Parse.{digits_value, ParsesUnsigned}
use Rattle.std.proofs.lemmas.Str.Parse.{IsNumeralModel, numerals_by_value, parse_digits}
use Rattle.std.proofs.lemmas.Bool.{cond-false, le-ltb, cases_lt, false≢true}
use Rattle.alg_lex.specs.Characters.{is_digit}
use Rattle.alg_lex.specs.Tokens.{is_literal}

pub own : IsNumeralModel (λ ds. list_all is_digit ds ≡ true) (digits_value 10)
own = numerals_by_value _ (search rules)

-- what doesn't fit 128 bits is past the limit
pub too_wide : (ds : List ℕ) → is_literal ds ≡ true → ParsesUnsigned {E = Unit {0}} 128 10 ds (Err (tt {0})) → None ≡ (if nat_lt (digits_value 10 ds) (2 ^ 127) then Some (digits_value 10 ds) else None)
too_wide ds e h = sym (cond-false _ _ _ (le-ltb (digits_value 10 ds) (2 ^ 127) (past (nonempty ds e))))
  where
    nonempty : (ds : List ℕ) → is_literal ds ≡ true → 0 < length ds
    nonempty [] e = absurd (false≢true e)
    nonempty (c ∷ cs) e = omega arith

    all : (ds : List ℕ) → is_literal ds ≡ true → list_all is_digit ds ≡ true
    all [] e = refl
    all (c ∷ cs) e = e

    past : 0 < length ds → 2 ^ 127 ≤ digits_value 10 ds
    past some = elim (cases_lt (digits_value 10 ds) (2 ^ 128)) [ inl small ↦ absurd (parse_digits own 128 ds (Err (tt {0})) h (all ds e) (some, small)) | inr large ↦ omega arith ]
