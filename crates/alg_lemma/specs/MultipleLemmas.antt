-- Lemmas on multiples by numbers of ℕ.
use Rattle.std.specs.Prelude.{List, [], ◌∷◌, ◌++◌, codes}
use Rattle.alg_law.specs.declared.classes.Class.TheVariants.{AddCommGroup, AddCommMonoid, AddMonoid}
use Rattle.alg_law.specs.Rows.{Row}
use Rattle.alg_law.specs.LawWords.{a, b, c, d, m, n, always, equal, in_a, multiple, natural, natural_plus, natural_times, negative, number, plus, whenever}
use Rattle.alg_lemma.specs.CombinationLemmas.{through_combination_lemmas}

-- 1 • a = a
abbrev pub one_nsmul : Row
one_nsmul = always (codes "one_nsmul") (in_a AddMonoid) (equal (multiple (natural 1) a) a)

-- a = 0 + 1 • a
abbrev pub atom_sum : Row
atom_sum = always (codes "atom_sum") (in_a AddMonoid) (equal a (plus (number 0) (multiple (natural 1) a)))

-- n • 0 = 0
abbrev pub nsmul_zero : Row
nsmul_zero = always (codes "nsmul_zero") (in_a AddMonoid) (equal (multiple n (number 0)) (number 0))

-- where (m + n) • a = b: m • a + n • a = b
abbrev pub nsmul_collect : Row
nsmul_collect = whenever (codes "nsmul_collect") (in_a AddMonoid) (equal (multiple (natural_plus m n) a) b ∷ []) (equal (plus (multiple m a) (multiple n a)) b)

-- where (m * n) • a = b: m • n • a = b
abbrev pub nsmul_nsmul : Row
nsmul_nsmul = whenever (codes "nsmul_nsmul") (in_a AddMonoid) (equal (multiple (natural_times m n) a) b ∷ []) (equal (multiple m (multiple n a)) b)

-- where n • a = c and n • b = d: n • (a + b) = c + d
abbrev pub nsmul_sum : Row
nsmul_sum = whenever (codes "nsmul_sum") (in_a AddCommMonoid) (equal (multiple n a) c ∷ equal (multiple n b) d ∷ []) (equal (multiple n (plus a b)) (plus c d))

-- where n • a = b: n • -a = -b
abbrev pub nsmul_neg : Row
nsmul_neg = whenever (codes "nsmul_neg") (in_a AddCommGroup) (equal (multiple n a) b ∷ []) (equal (multiple n (negative a)) (negative b))

unfoldable pub multiple_lemmas : List Row
multiple_lemmas = one_nsmul ∷ atom_sum ∷ nsmul_zero ∷ nsmul_collect ∷ nsmul_nsmul ∷ nsmul_sum ∷ nsmul_neg ∷ []

-- these and the lemmas before them
abbrev pub through_multiple_lemmas : List Row
through_multiple_lemmas = through_combination_lemmas ++ multiple_lemmas
