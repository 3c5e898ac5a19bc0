-- The words in which the laws are written.
use Rattle.std.specs.Prelude.{ℕ, List, [], ◌∷◌}
use Rattle.alg_terms.specs.declared.symbols.Sym.{Sym}
use Rattle.alg_terms.specs.declared.symbols.Sym.TheVariants.{Add, Mul, Neg, Sub, Inv, Div, Npow, Zpow, Nsmul, Zsmul, Abs, Min, Max, Fact}
use Rattle.alg_terms.specs.declared.relations.Rel.{Rel}
use Rattle.alg_terms.specs.declared.relations.Rel.TheVariants.{Eq, Ne, Lt, Le}
use Rattle.alg_law.specs.declared.classes.Class.{Class}
use Rattle.alg_law.specs.declared.rows.Need.{Need}
use Rattle.alg_law.specs.declared.rows.Need.TheVariants as need
use Rattle.alg_law.specs.declared.patterns.PatSort.{PatSort}
use Rattle.alg_law.specs.declared.patterns.PatSort.TheVariants as of
use Rattle.alg_law.specs.Patterns.{Pat, Letter, PLit, PApp, PNil, PCons, PatStatement}
use Rattle.alg_law.specs.Rows.{Row}

-- a, b, c, d stand for trees of the sort, m and n for trees of ℕ, i and j for trees of ℤ
abbrev pub a : Pat
a = Letter 0

abbrev pub b : Pat
b = Letter 1

abbrev pub c : Pat
c = Letter 2

abbrev pub d : Pat
d = Letter 3

abbrev pub m : Pat
m = Letter 4

abbrev pub n : Pat
n = Letter 5

abbrev pub i : Pat
i = Letter 6

abbrev pub j : Pat
j = Letter 7

-- a literal of the sort
abbrev pub number : ℕ → Pat
number k = PLit of.S k

-- a literal of ℕ
abbrev pub natural : ℕ → Pat
natural k = PLit of.Nat k

abbrev pub unary : Sym → PatSort → Pat → Pat
unary f s x = PApp f s (PCons x PNil)

abbrev pub binary : Sym → PatSort → Pat → Pat → Pat
binary f s x y = PApp f s (PCons x (PCons y PNil))

abbrev pub plus : Pat → Pat → Pat
plus = binary Add of.S

abbrev pub times : Pat → Pat → Pat
times = binary Mul of.S

abbrev pub minus : Pat → Pat → Pat
minus = binary Sub of.S

abbrev pub over : Pat → Pat → Pat
over = binary Div of.S

abbrev pub negative : Pat → Pat
negative = unary Neg of.S

abbrev pub inverse : Pat → Pat
inverse = unary Inv of.S

-- the base, then an exponent of ℕ
abbrev pub power : Pat → Pat → Pat
power = binary Npow of.S

-- the base, then an exponent of ℤ
abbrev pub integer_power : Pat → Pat → Pat
integer_power = binary Zpow of.S

-- a number of ℕ, then what it multiplies
abbrev pub multiple : Pat → Pat → Pat
multiple = binary Nsmul of.S

-- a number of ℤ, then what it multiplies
abbrev pub integer_multiple : Pat → Pat → Pat
integer_multiple = binary Zsmul of.S

abbrev pub absolute : Pat → Pat
absolute = unary Abs of.S

abbrev pub lesser : Pat → Pat → Pat
lesser = binary Min of.S

abbrev pub greater : Pat → Pat → Pat
greater = binary Max of.S

abbrev pub factorial : Pat → Pat
factorial = unary Fact of.S

abbrev pub natural_plus : Pat → Pat → Pat
natural_plus = binary Add of.Nat

abbrev pub natural_times : Pat → Pat → Pat
natural_times = binary Mul of.Nat

abbrev pub integer_plus : Pat → Pat → Pat
integer_plus = binary Add of.Int

abbrev pub integer_times : Pat → Pat → Pat
integer_times = binary Mul of.Int

abbrev pub integer_negative : Pat → Pat
integer_negative = unary Neg of.Int

abbrev pub relates : Rel → Pat → Pat → PatStatement
relates r x y = record { rel = r; sort = of.S; lhs = x; rhs = y }

abbrev pub equal : Pat → Pat → PatStatement
equal = relates Eq

abbrev pub unequal : Pat → Pat → PatStatement
unequal = relates Ne

abbrev pub less : Pat → Pat → PatStatement
less = relates Lt

abbrev pub at_most : Pat → Pat → PatStatement
at_most = relates Le

-- a sort of the class
abbrev pub in_a : Class → List Need
in_a k = need.Class k ∷ []

-- a sort of both classes
abbrev pub in_both : Class → Class → List Need
in_both k l = need.Class k ∷ need.Class l ∷ []

abbrev pub in_any : List Need
in_any = []

abbrev pub in_naturals : List Need
in_naturals = need.IsNat ∷ []

-- a law without premises
abbrev pub always : List ℕ → List Need → PatStatement → Row
always name needs conclusion = record { name = name; needs = needs; premises = []; conclusion = conclusion }

-- a law with premises
abbrev pub whenever : List ℕ → List Need → List PatStatement → PatStatement → Row
whenever name needs premises conclusion = record { name = name; needs = needs; premises = premises; conclusion = conclusion }
