-- What an exact answer says of a literal's value.
use Rattle.std.proofs.Common.{◌≡◌, ℕ, ◌<◌, ◌^◌, Bool, true, false, Option, Some, None, arith, refl, ap, subst}
use Rattle.std.specs.Prelude.{SomeIff, nat_lt, if◌then◌else◌}
use Rattle.std.proofs.lemmas.Bool.Decides.{nat_tests}
use Rattle.alg_law.specs.Computing.{literal_value}

by_test : (limit v : ℕ) (t : Bool) (o : Option ℕ) → nat_lt v limit ≡ t → SomeIff o (v < limit) v → o ≡ (if t then Some v else None)
by_test limit v true None e h = absurd (h (grind (arith, nat_tests)))
by_test limit v true (Some w) e h = ap Some h.1
by_test limit v false None e h = refl
by_test limit v false (Some w) e h = absurd (grind (arith, nat_tests))

pub same_number : (o : Option ℕ) (v w : ℕ) → v ≡ w → SomeIff o (v < 2 ^ 127) v → SomeIff o (w < 2 ^ 127) w
same_number o v w e h = subst (λ n. SomeIff o (n < 2 ^ 127) n) e h

pub as_literal : (o : Option ℕ) (v w : ℕ) → v ≡ w → SomeIff o (v < 2 ^ 127) v → o ≡ literal_value (Some w)
as_literal o v w e h = by_test (2 ^ 127) w (nat_lt w (2 ^ 127)) o refl (same_number o v w e h)
