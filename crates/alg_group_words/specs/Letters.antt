-- The word of a tree in a group, written out.
use Rattle.std.specs.Prelude.{ℕ, zero, suc, ◌+◌, ◌*◌, false, List, [], ◌∷◌, ◌++◌, Option, Some, None, ℤ, unsigned_abs}
use Rattle.alg_terms.specs.declared.symbols.Sym.TheVariants.{Mul, Inv, Div, Npow, Zpow}
use Rattle.alg_terms.specs.Tree.{Tree, Lit, App, Nil, Cons}
use Rattle.alg_group_words.specs.Word.{Letter, inverted, raised, reduced}

abbrev pub letter_of : Tree → List Letter
letter_of a = (a, false) ∷ []

-- a power with an exponent that has a number repeats, another one is this atom
abbrev pub raised_or : Tree → List Letter → Option ℤ → List Letter
raised_or a w (Some k) = raised w k
raised_or a w None = letter_of a

-- the letters of a tree, where value gives the integers that trees denote
abbrev pub letters : (Tree → Option ℤ) → Tree → List Letter
letters value (Lit s (suc zero)) = []
letters value (App Mul s (Cons a (Cons b Nil))) = letters value a ++ letters value b
letters value (App Inv s (Cons a Nil)) = inverted (letters value a)
letters value (App Div s (Cons a (Cons b Nil))) = letters value a ++ inverted (letters value b)
letters value (App Npow s (Cons a (Cons k Nil))) = raised_or (App Npow s (Cons a (Cons k Nil))) (letters value a) (value k)
letters value (App Zpow s (Cons a (Cons k Nil))) = raised_or (App Zpow s (Cons a (Cons k Nil))) (letters value a) (value k)
letters value t = letter_of t

-- the word of a tree, with all inverse neighbours cancelled
abbrev pub word : (Tree → Option ℤ) → Tree → List Letter
word value t = reduced (letters value t)

-- ---- measures
abbrev pub times_or : Option ℤ → ℕ → ℕ
times_or (Some k) n = unsigned_abs k * n
times_or None n = 1

-- the number of letters before cancelling
abbrev pub weight : (Tree → Option ℤ) → Tree → ℕ
weight value (Lit s (suc zero)) = 0
weight value (App Mul s (Cons a (Cons b Nil))) = weight value a + weight value b
weight value (App Inv s (Cons a Nil)) = weight value a
weight value (App Div s (Cons a (Cons b Nil))) = weight value a + weight value b
weight value (App Npow s (Cons a (Cons k Nil))) = times_or (value k) (weight value a)
weight value (App Zpow s (Cons a (Cons k Nil))) = times_or (value k) (weight value a)
weight value t = 1
