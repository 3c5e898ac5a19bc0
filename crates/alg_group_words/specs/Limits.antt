-- Which pairs of trees are out of range, and which are too large.
use Rattle.std.specs.Prelude.{ℕ, zero, suc, ◌+◌, ◌*◌, ◌^◌, Bool, false, not, cond, ◌||◌, ◌&&◌, nat_le, List, [], ◌∷◌, ◌++◌, length, Option, Some, None, ℤ, unsigned_abs}
use Rattle.alg_terms.specs.declared.symbols.Sym.TheVariants.{Mul, Inv, Div, Npow, Zpow}
use Rattle.alg_terms.specs.Tree.{Tree, Lit, App, Nil, Cons}
use Rattle.alg_terms.specs.Order.{tree_same}
use Rattle.alg_group_words.specs.Letters.{weight}
use Rattle.alg_group_words.specs.Syllables.{syllables}

-- above 2 ^ 126
abbrev pub is_heavy : ℕ → Bool
is_heavy n = not (nat_le n (2 ^ 126))

-- the base of a power is looked at where the power is no atom
abbrev pub where_number : Option ℤ → Bool → Bool
where_number (Some k) b = b
where_number None b = false

-- the weight of a visited node is above 2 ^ 126, or the exponent of a visited power is past range
abbrev pub out_of_range : (Tree → Option ℤ) → (Tree → Bool) → Tree → Bool
out_of_range value past (App Mul s (Cons a (Cons b Nil))) = is_heavy (weight value a + weight value b) || (out_of_range value past a || out_of_range value past b)
out_of_range value past (App Div s (Cons a (Cons b Nil))) = is_heavy (weight value a + weight value b) || (out_of_range value past a || out_of_range value past b)
out_of_range value past (App Inv s (Cons a Nil)) = out_of_range value past a
out_of_range value past (App Npow s (Cons a (Cons k Nil))) = past k || (is_heavy (weight value (App Npow s (Cons a (Cons k Nil)))) || where_number (value k) (out_of_range value past a))
out_of_range value past (App Zpow s (Cons a (Cons k Nil))) = past k || (is_heavy (weight value (App Zpow s (Cons a (Cons k Nil)))) || where_number (value k) (out_of_range value past a))
out_of_range value past t = false

-- above 16,384
abbrev pub is_long : ℕ → Bool
is_long n = not (nat_le n 16384)

-- the power by k of a word of n syllables is too long, where n is at least 2
abbrev pub long_power : Option ℤ → ℕ → Bool
long_power (Some k) n = nat_le 2 n && is_long (unsigned_abs k * n)
long_power None n = false

-- a visited join or power is too long
abbrev pub has_long : (Tree → Option ℤ) → Tree → Bool
has_long value (App Mul s (Cons a (Cons b Nil))) = is_long (length (syllables value a) + length (syllables value b)) || (has_long value a || has_long value b)
has_long value (App Div s (Cons a (Cons b Nil))) = is_long (length (syllables value a) + length (syllables value b)) || (has_long value a || has_long value b)
has_long value (App Inv s (Cons a Nil)) = has_long value a
has_long value (App Npow s (Cons a (Cons k Nil))) = long_power (value k) (length (syllables value a)) || where_number (value k) (has_long value a)
has_long value (App Zpow s (Cons a (Cons k Nil))) = long_power (value k) (length (syllables value a)) || where_number (value k) (has_long value a)
has_long value t = false

abbrev pub count_or : Option ℤ → ℕ → ℕ
count_or (Some k) n = n
count_or None n = 0

-- the syllables of the reduced words of all visited nodes
abbrev pub all_syllables : (Tree → Option ℤ) → Tree → ℕ
all_syllables value (App Mul s (Cons a (Cons b Nil))) = length (syllables value (App Mul s (Cons a (Cons b Nil)))) + (all_syllables value a + all_syllables value b)
all_syllables value (App Div s (Cons a (Cons b Nil))) = length (syllables value (App Div s (Cons a (Cons b Nil)))) + (all_syllables value a + all_syllables value b)
all_syllables value (App Inv s (Cons a Nil)) = length (syllables value (App Inv s (Cons a Nil))) + all_syllables value a
all_syllables value (App Npow s (Cons a (Cons k Nil))) = length (syllables value (App Npow s (Cons a (Cons k Nil)))) + count_or (value k) (all_syllables value a)
all_syllables value (App Zpow s (Cons a (Cons k Nil))) = length (syllables value (App Zpow s (Cons a (Cons k Nil)))) + count_or (value k) (all_syllables value a)
all_syllables value t = length (syllables value t)

abbrev pub atoms_or : Tree → List Tree → Option ℤ → List Tree
atoms_or a xs (Some k) = xs
atoms_or a xs None = a ∷ []

-- the visited atoms, each as often as it stands there
abbrev pub atoms : (Tree → Option ℤ) → Tree → List Tree
atoms value (Lit s (suc zero)) = []
atoms value (App Mul s (Cons a (Cons b Nil))) = atoms value a ++ atoms value b
atoms value (App Div s (Cons a (Cons b Nil))) = atoms value a ++ atoms value b
atoms value (App Inv s (Cons a Nil)) = atoms value a
atoms value (App Npow s (Cons a (Cons k Nil))) = atoms_or (App Npow s (Cons a (Cons k Nil))) (atoms value a) (value k)
atoms value (App Zpow s (Cons a (Cons k Nil))) = atoms_or (App Zpow s (Cons a (Cons k Nil))) (atoms value a) (value k)
atoms value t = t ∷ []

abbrev pub is_there : Tree → List Tree → Bool
is_there a [] = false
is_there a (x ∷ xs) = tree_same a x || is_there a xs

-- each tree once
abbrev pub distinct : List Tree → List Tree
distinct [] = []
distinct (x ∷ xs) = cond (is_there x xs) (distinct xs) (x ∷ distinct xs)

abbrev pub too_large : (Tree → Option ℤ) → Tree → Tree → Bool
too_large value l r =
    (has_long value l || has_long value r)
    || (not (nat_le (all_syllables value l + all_syllables value r) (2 ^ 18)) || not (nat_le (length (distinct (atoms value l ++ atoms value r))) 256))
