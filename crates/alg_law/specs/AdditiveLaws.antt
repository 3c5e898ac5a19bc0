-- Laws of sums, negations and multiples.
use Rattle.std.specs.Prelude.{List, [], ◌∷◌, codes}
use Rattle.alg_law.specs.declared.classes.Class.TheVariants.{AddMonoid, AddCommMonoid, AddGroup, AddCommGroup}
use Rattle.alg_law.specs.Rows.{Row}
use Rattle.alg_law.specs.LawWords.{a, b, c, m, n, i, j, number, natural, plus, minus, negative, multiple, integer_multiple, natural_plus, natural_times, integer_plus, integer_times, integer_negative, equal, in_a, always}

-- a + b + c = a + (b + c)
abbrev pub add_assoc : Row
add_assoc = always (codes "add_assoc") (in_a AddMonoid) (equal (plus (plus a b) c) (plus a (plus b c)))

-- 0 + a = a
abbrev pub zero_add : Row
zero_add = always (codes "zero_add") (in_a AddMonoid) (equal (plus (number 0) a) a)

-- a + 0 = a
abbrev pub add_zero : Row
add_zero = always (codes "add_zero") (in_a AddMonoid) (equal (plus a (number 0)) a)

-- a + b = b + a
abbrev pub add_comm : Row
add_comm = always (codes "add_comm") (in_a AddCommMonoid) (equal (plus a b) (plus b a))

-- -a + a = 0
abbrev pub neg_add_cancel : Row
neg_add_cancel = always (codes "neg_add_cancel") (in_a AddGroup) (equal (plus (negative a) a) (number 0))

-- a - b = a + -b
abbrev pub sub_eq_add_neg : Row
sub_eq_add_neg = always (codes "sub_eq_add_neg") (in_a AddGroup) (equal (minus a b) (plus a (negative b)))

unfoldable pub sum_laws : List Row
sum_laws = add_assoc ∷ zero_add ∷ add_zero ∷ add_comm ∷ neg_add_cancel ∷ sub_eq_add_neg ∷ []

-- 0 • a = 0
abbrev pub zero_nsmul : Row
zero_nsmul = always (codes "zero_nsmul") (in_a AddMonoid) (equal (multiple (natural 0) a) (number 0))

-- (n + 1) • a = n • a + a
abbrev pub succ_nsmul : Row
succ_nsmul = always (codes "succ_nsmul") (in_a AddMonoid) (equal (multiple (natural_plus n (natural 1)) a) (plus (multiple n a) a))

-- (m + n) • a = m • a + n • a
abbrev pub add_nsmul : Row
add_nsmul = always (codes "add_nsmul") (in_a AddMonoid) (equal (multiple (natural_plus m n) a) (plus (multiple m a) (multiple n a)))

-- (m * n) • a = m • n • a
abbrev pub mul_nsmul : Row
mul_nsmul = always (codes "mul_nsmul") (in_a AddMonoid) (equal (multiple (natural_times m n) a) (multiple m (multiple n a)))

-- n • (a + b) = n • a + n • b
abbrev pub nsmul_add : Row
nsmul_add = always (codes "nsmul_add") (in_a AddCommMonoid) (equal (multiple n (plus a b)) (plus (multiple n a) (multiple n b)))

-- (-i) • a = -(i • a)
abbrev pub neg_zsmul : Row
neg_zsmul = always (codes "neg_zsmul") (in_a AddGroup) (equal (integer_multiple (integer_negative i) a) (negative (integer_multiple i a)))

-- (i + j) • a = i • a + j • a
abbrev pub add_zsmul : Row
add_zsmul = always (codes "add_zsmul") (in_a AddGroup) (equal (integer_multiple (integer_plus i j) a) (plus (integer_multiple i a) (integer_multiple j a)))

-- (i * j) • a = i • j • a
abbrev pub mul_zsmul : Row
mul_zsmul = always (codes "mul_zsmul") (in_a AddGroup) (equal (integer_multiple (integer_times i j) a) (integer_multiple i (integer_multiple j a)))

-- i • (a + b) = i • a + i • b
abbrev pub zsmul_add : Row
zsmul_add = always (codes "zsmul_add") (in_a AddCommGroup) (equal (integer_multiple i (plus a b)) (plus (integer_multiple i a) (integer_multiple i b)))

unfoldable pub multiple_laws : List Row
multiple_laws = zero_nsmul ∷ succ_nsmul ∷ add_nsmul ∷ mul_nsmul ∷ nsmul_add ∷ neg_zsmul ∷ add_zsmul ∷ mul_zsmul ∷ zsmul_add ∷ []
