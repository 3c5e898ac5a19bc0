-- Goals by their numbers.
use Rattle.std.proofs.Common.{◌≡◌, ℕ, zero, suc, ◌-◌, ◌<◌, ◌≤◌, List, [], ◌∷◌, length, map, get_or, Some, refl, ap, sym, ◌∙◌, arith}
use Rattle.std.specs.Prelude.{None, nat_lt, slice_get, if◌then◌else◌}
use Rattle.std.proofs.lemmas.Bool.{lt-ltb}
use Rattle.alg_proof.specs.Causes.{line_at}

module _ {X Y : Type 0} (f : X → Y) where
  at_place : (xs : List X) (i : ℕ) (d : X) → i < length xs → slice_get (map f xs) i ≡ Some (f (get_or xs i d))
  at_place [] i d h = absurd (omega (arith, h))
  at_place (x ∷ xs) zero d h = refl
  at_place (x ∷ xs) (suc i) d h = at_place xs i d (omega (arith, h))

  at_line : (xs : List X) (n : ℕ) (x : X) → 0 < n → n ≤ length xs → x ≡ get_or xs (n - 1) x → Some (f x) ≡ line_at (map f xs) n
  at_line xs zero x p h e = absurd (omega (arith, p))
  at_line xs (suc i) x p h e =
      let same : suc i - 1 ≡ i = omega arith in
      ap (λ y. Some (f y)) (rw same at e) ∙ sym (at_place xs i x (omega (arith, h)))

  -- the goal with a number that may stand there
  pub goal_at : (xs : List X) (b n : ℕ) (x : X) → b < n → n ≤ length xs → x ≡ get_or xs (n - 1) x → Some (f x) ≡ (if nat_lt b n then line_at (map f xs) n else None)
  goal_at xs b n x p h e = rw (lt-ltb b n p) (at_line xs n x (omega (arith, p)) h e)
