-- Laws of the order, of the lesser and of the greater hold at the integers.
use Rattle.std.specs.Prelude.{All, ◌≡◌, ◌≢◌, ℤ, ◌<ℤ◌, ◌≤ℤ◌, int_lt}
use Rattle.std.specs.Int.{int_min, int_max}
use Rattle.std.proofs.Common.{arith}
use Rattle.std.proofs.lemmas.Int.{ints, clamps}
use Rattle.alg_law.proofs.IntegerOrder.{less_unless_equal, not_either}
use Rattle.std.proofs.lemmas.List.Elements.{All-from_recursion}
use Rattle.alg_law.specs.OrderLaws.{order_laws, min_max_laws, le_refl, le_of_lt, ne_of_lt, lt_of_le_of_ne, le_trans, lt_trans, lt_of_lt_of_le, lt_of_le_of_lt, min_eq_left, min_eq_right, max_eq_left, max_eq_right, lt_min, le_min, min_ne, lt_max_left, lt_max_right, le_max_left, le_max_right, max_ne}
use Rattle.alg_law.specs.TrueRows.{IsTrueRow}
use Rattle.alg_law.proofs.TrueRowLaws.{letter}

at_most_self : (a : ℤ) → a ≤ℤ a
at_most_self a = omega (arith, ints)

at_most_where_less : (a b : ℤ) → a <ℤ b → a ≤ℤ b
at_most_where_less a b h = omega (arith, ints)

unequal_where_less : (a b : ℤ) → a <ℤ b → a ≢ b
unequal_where_less a b h e = omega (arith, ints, e)

at_most_twice : (a b c : ℤ) → a ≤ℤ b → b ≤ℤ c → a ≤ℤ c
at_most_twice a b c h k = omega (arith, ints)

less_twice : (a b c : ℤ) → a <ℤ b → b <ℤ c → a <ℤ c
less_twice a b c h k = omega (arith, ints)

less_then_at_most : (a b c : ℤ) → a <ℤ b → b ≤ℤ c → a <ℤ c
less_then_at_most a b c h k = omega (arith, ints)

at_most_then_less : (a b c : ℤ) → a ≤ℤ b → b <ℤ c → a <ℤ c
at_most_then_less a b c h k = omega (arith, ints)

lesser_left : (a b : ℤ) → a ≤ℤ b → int_min a b ≡ a
lesser_left a b h = omega (arith, ints, clamps)

lesser_right : (a b : ℤ) → b ≤ℤ a → int_min a b ≡ b
lesser_right a b h = omega (arith, ints, clamps)

greater_left : (a b : ℤ) → b ≤ℤ a → int_max a b ≡ a
greater_left a b h = omega (arith, ints, clamps)

greater_right : (a b : ℤ) → a ≤ℤ b → int_max a b ≡ b
greater_right a b h = omega (arith, ints, clamps)

less_than_lesser : (a b c : ℤ) → c <ℤ a → c <ℤ b → c <ℤ int_min a b
less_than_lesser a b c h k = omega (arith, ints, clamps)

at_most_lesser : (a b c : ℤ) → c ≤ℤ a → c ≤ℤ b → c ≤ℤ int_min a b
at_most_lesser a b c h k = omega (arith, ints, clamps)

less_than_greater_left : (a b c : ℤ) → c <ℤ a → c <ℤ int_max a b
less_than_greater_left a b c h = omega (arith, ints, clamps)

less_than_greater_right : (a b c : ℤ) → c <ℤ b → c <ℤ int_max a b
less_than_greater_right a b c h = omega (arith, ints, clamps)

at_most_greater_left : (a b c : ℤ) → c ≤ℤ a → c ≤ℤ int_max a b
at_most_greater_left a b c h = omega (arith, ints, clamps)

at_most_greater_right : (a b c : ℤ) → c ≤ℤ b → c ≤ℤ int_max a b
at_most_greater_right a b c h = omega (arith, ints, clamps)

le_refl-true : IsTrueRow le_refl
le_refl-true ds v s with base val fill beside hold = at_most_self (letter v with 0)

le_of_lt-true : IsTrueRow le_of_lt
le_of_lt-true ds v s with base val fill beside hold = at_most_where_less (letter v with 0) (letter v with 1) hold.0

ne_of_lt-true : IsTrueRow ne_of_lt
ne_of_lt-true ds v s with base val fill beside hold = unequal_where_less (letter v with 0) (letter v with 1) hold.0

lt_of_le_of_ne-true : IsTrueRow lt_of_le_of_ne
lt_of_le_of_ne-true ds v s with base val fill beside hold = less_unless_equal (letter v with 0) (letter v with 1) hold.0 hold.1.0

le_trans-true : IsTrueRow le_trans
le_trans-true ds v s with base val fill beside hold = at_most_twice (letter v with 0) (letter v with 1) (letter v with 2) hold.0 hold.1.0

lt_trans-true : IsTrueRow lt_trans
lt_trans-true ds v s with base val fill beside hold = less_twice (letter v with 0) (letter v with 1) (letter v with 2) hold.0 hold.1.0

lt_of_lt_of_le-true : IsTrueRow lt_of_lt_of_le
lt_of_lt_of_le-true ds v s with base val fill beside hold = less_then_at_most (letter v with 0) (letter v with 1) (letter v with 2) hold.0 hold.1.0

lt_of_le_of_lt-true : IsTrueRow lt_of_le_of_lt
lt_of_le_of_lt-true ds v s with base val fill beside hold = at_most_then_less (letter v with 0) (letter v with 1) (letter v with 2) hold.0 hold.1.0

pub order_laws-true : All IsTrueRow order_laws
unfolding order_laws
order_laws-true = All-from_recursion IsTrueRow order_laws (le_refl-true, (le_of_lt-true, (ne_of_lt-true, (lt_of_le_of_ne-true, (le_trans-true, (lt_trans-true, (lt_of_lt_of_le-true, (lt_of_le_of_lt-true, tt))))))))

min_eq_left-true : IsTrueRow min_eq_left
min_eq_left-true ds v s with base val fill beside hold = lesser_left (letter v with 0) (letter v with 1) hold.0

min_eq_right-true : IsTrueRow min_eq_right
min_eq_right-true ds v s with base val fill beside hold = lesser_right (letter v with 0) (letter v with 1) hold.0

max_eq_left-true : IsTrueRow max_eq_left
max_eq_left-true ds v s with base val fill beside hold = greater_left (letter v with 0) (letter v with 1) hold.0

max_eq_right-true : IsTrueRow max_eq_right
max_eq_right-true ds v s with base val fill beside hold = greater_right (letter v with 0) (letter v with 1) hold.0

lt_min-true : IsTrueRow lt_min
lt_min-true ds v s with base val fill beside hold = less_than_lesser (letter v with 0) (letter v with 1) (letter v with 2) hold.0 hold.1.0

le_min-true : IsTrueRow le_min
le_min-true ds v s with base val fill beside hold = at_most_lesser (letter v with 0) (letter v with 1) (letter v with 2) hold.0 hold.1.0

min_ne-true : IsTrueRow min_ne
min_ne-true ds v s with base val fill beside hold = not_either (int_lt (letter v with 1) (letter v with 0)) (letter v with 1) (letter v with 0) (letter v with 2) hold.1.0 hold.0

lt_max_left-true : IsTrueRow lt_max_left
lt_max_left-true ds v s with base val fill beside hold = less_than_greater_left (letter v with 0) (letter v with 1) (letter v with 2) hold.0

lt_max_right-true : IsTrueRow lt_max_right
lt_max_right-true ds v s with base val fill beside hold = less_than_greater_right (letter v with 0) (letter v with 1) (letter v with 2) hold.0

le_max_left-true : IsTrueRow le_max_left
le_max_left-true ds v s with base val fill beside hold = at_most_greater_left (letter v with 0) (letter v with 1) (letter v with 2) hold.0

le_max_right-true : IsTrueRow le_max_right
le_max_right-true ds v s with base val fill beside hold = at_most_greater_right (letter v with 0) (letter v with 1) (letter v with 2) hold.0

max_ne-true : IsTrueRow max_ne
max_ne-true ds v s with base val fill beside hold = not_either (int_lt (letter v with 1) (letter v with 0)) (letter v with 0) (letter v with 1) (letter v with 2) hold.0 hold.1.0

pub min_max_laws-true : All IsTrueRow min_max_laws
unfolding min_max_laws
min_max_laws-true = All-from_recursion IsTrueRow min_max_laws (min_eq_left-true, (min_eq_right-true, (max_eq_left-true, (max_eq_right-true, (lt_min-true, (le_min-true, (min_ne-true, (lt_max_left-true, (lt_max_right-true, (le_max_left-true, (le_max_right-true, (max_ne-true, tt))))))))))))
