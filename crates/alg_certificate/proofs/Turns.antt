-- The steps of the loop over digits.
use Rattle.std.proofs.Common.{◌≡◌, ℕ, ◌+◌, ◌-◌, ◌*◌, Bool, true, false, List, [], ◌∷◌, Option, Some, None, nat_le, if◌then◌else◌, refl, sym, ap, ◌∙◌, ◌≤◌, arith, leb-true}
use Rattle.std.proofs.lemmas.Option.{none-some}
use Rattle.alg_certificate.specs.Numbers.{is_digit, max_number, read_on}

pub on_end : (n : ℕ) (all : List ℕ) → all ≡ [] → read_on n all ≡ Some (n, all)
unfolding read_on
on_end n all e = rw e refl

pub on_other : (n c : ℕ) (cs all : List ℕ) → all ≡ c ∷ cs → is_digit c ≡ false → read_on n all ≡ Some (n, all)
unfolding read_on
on_other n c cs all e d = rw (e, d) refl

pub on_over : (n c : ℕ) (cs all : List ℕ) → all ≡ c ∷ cs → is_digit c ≡ true → ◌≡◌ {A = Option ℕ} None (if nat_le (n * 10 + (c - 48)) max_number then Some (n * 10 + (c - 48)) else None) → read_on n all ≡ None
unfolding read_on
on_over n c cs all e d f = ap (read_on n) e ∙ over_by _ refl f
  where
    over_by : (b : Bool) → nat_le (n * 10 + (c - 48)) max_number ≡ b → ◌≡◌ {A = Option ℕ} None (if◌then◌else◌ {A = Option ℕ} b (Some (n * 10 + (c - 48))) None) → read_on n (c ∷ cs) ≡ None
    over_by true t f = cc
    over_by false t f = rw (d, t) refl

pub on_more : (n c m : ℕ) (cs all : List ℕ) → all ≡ c ∷ cs → is_digit c ≡ true → ◌≡◌ {A = Option ℕ} (Some m) (if nat_le (n * 10 + (c - 48)) max_number then Some (n * 10 + (c - 48)) else None) → (read_on n all ≡ read_on m cs) × (m ≤ max_number)
unfolding read_on
on_more n c m cs all e d f = more_by _ refl f
  where
    more_by : (b : Bool) → nat_le (n * 10 + (c - 48)) max_number ≡ b → ◌≡◌ {A = Option ℕ} (Some m) (if◌then◌else◌ {A = Option ℕ} b (Some (n * 10 + (c - 48))) None) → (read_on n all ≡ read_on m cs) × (m ≤ max_number)
    more_by true t f = let same : m ≡ n * 10 + (c - 48) = cc in (rw (e, d, t, same) refl, omega (arith, leb-true _ _ t))
    more_by false t f = absurd (none-some _ (sym f))
