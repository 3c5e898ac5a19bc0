-- Laws of products, inverses, quotients and powers.
use Rattle.std.specs.Prelude.{List, [], ◌∷◌, codes}
use Rattle.alg_law.specs.declared.classes.Class.TheVariants.{Semigroup, CommSemigroup, Monoid, CommMonoid, Group, Field}
use Rattle.alg_law.specs.Rows.{Row}
use Rattle.alg_law.specs.LawWords.{a, b, c, m, n, i, j, number, natural, times, over, inverse, power, integer_power, natural_plus, natural_times, integer_plus, integer_times, integer_negative, equal, in_a, always}

-- a * b * c = a * (b * c)
abbrev pub mul_assoc : Row
mul_assoc = always (codes "mul_assoc") (in_a Semigroup) (equal (times (times a b) c) (times a (times b c)))

-- a * b = b * a
abbrev pub mul_comm : Row
mul_comm = always (codes "mul_comm") (in_a CommSemigroup) (equal (times a b) (times b a))

-- 1 * a = a
abbrev pub one_mul : Row
one_mul = always (codes "one_mul") (in_a Monoid) (equal (times (number 1) a) a)

-- a * 1 = a
abbrev pub mul_one : Row
mul_one = always (codes "mul_one") (in_a Monoid) (equal (times a (number 1)) a)

-- a⁻¹ * a = 1
abbrev pub inv_mul_cancel : Row
inv_mul_cancel = always (codes "inv_mul_cancel") (in_a Group) (equal (times (inverse a) a) (number 1))

-- a / b = a * b⁻¹, in a group
abbrev pub div_eq_mul_inv : Row
div_eq_mul_inv = always (codes "div_eq_mul_inv") (in_a Group) (equal (over a b) (times a (inverse b)))

-- a / b = a * b⁻¹, in a field
abbrev pub div_eq_mul_inv0 : Row
div_eq_mul_inv0 = always (codes "div_eq_mul_inv0") (in_a Field) (equal (over a b) (times a (inverse b)))

unfoldable pub product_laws : List Row
product_laws = mul_assoc ∷ mul_comm ∷ one_mul ∷ mul_one ∷ inv_mul_cancel ∷ div_eq_mul_inv ∷ div_eq_mul_inv0 ∷ []

-- a ^ 0 = 1
abbrev pub pow_zero : Row
pow_zero = always (codes "pow_zero") (in_a Monoid) (equal (power a (natural 0)) (number 1))

-- a ^ (n + 1) = a ^ n * a
abbrev pub pow_succ : Row
pow_succ = always (codes "pow_succ") (in_a Monoid) (equal (power a (natural_plus n (natural 1))) (times (power a n) a))

-- a ^ (m + n) = a ^ m * a ^ n
abbrev pub pow_add : Row
pow_add = always (codes "pow_add") (in_a Monoid) (equal (power a (natural_plus m n)) (times (power a m) (power a n)))

-- a ^ (m * n) = (a ^ m) ^ n
abbrev pub pow_mul : Row
pow_mul = always (codes "pow_mul") (in_a Monoid) (equal (power a (natural_times m n)) (power (power a m) n))

-- 1 ^ n = 1
abbrev pub one_pow : Row
one_pow = always (codes "one_pow") (in_a Monoid) (equal (power (number 1) n) (number 1))

-- (a * b) ^ n = a ^ n * b ^ n
abbrev pub mul_pow : Row
mul_pow = always (codes "mul_pow") (in_a CommMonoid) (equal (power (times a b) n) (times (power a n) (power b n)))

-- a ^ (-i) = (a ^ i)⁻¹, in a group
abbrev pub zpow_neg : Row
zpow_neg = always (codes "zpow_neg") (in_a Group) (equal (integer_power a (integer_negative i)) (inverse (integer_power a i)))

-- a ^ (-i) = (a ^ i)⁻¹, in a field
abbrev pub zpow_neg0 : Row
zpow_neg0 = always (codes "zpow_neg0") (in_a Field) (equal (integer_power a (integer_negative i)) (inverse (integer_power a i)))

-- a ^ (i + j) = a ^ i * a ^ j
abbrev pub zpow_add : Row
zpow_add = always (codes "zpow_add") (in_a Group) (equal (integer_power a (integer_plus i j)) (times (integer_power a i) (integer_power a j)))

-- a ^ (i * j) = (a ^ i) ^ j
abbrev pub zpow_mul : Row
zpow_mul = always (codes "zpow_mul") (in_a Group) (equal (integer_power a (integer_times i j)) (integer_power (integer_power a i) j))

unfoldable pub power_laws : List Row
power_laws = pow_zero ∷ pow_succ ∷ pow_add ∷ pow_mul ∷ one_pow ∷ mul_pow ∷ zpow_neg ∷ zpow_neg0 ∷ zpow_add ∷ zpow_mul ∷ []
