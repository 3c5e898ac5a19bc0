-- Words as lists of syllables, each an atom and its exponent.
use Rattle.std.specs.Prelude.{◌≡◌, ℕ, zero, suc, ◌+◌, false, cond, List, [], ◌∷◌, ◌++◌, Option, Some, None, ℤ, pos, negsuc, unsigned_abs}
use Rattle.std.specs.Ordering.{int_eq}
use Rattle.std.proofs.Common.{neg_ℤ, ◌+ℤ◌, ◌*ℤ◌}
use Rattle.alg_terms.specs.declared.symbols.Sym.TheVariants.{Mul, Inv, Div, Npow, Zpow}
use Rattle.alg_terms.specs.Tree.{Tree, Lit, App, Nil, Cons}
use Rattle.alg_terms.specs.Order.{tree_same}
use Rattle.alg_group_words.specs.Word.{Letter, power}

-- the letters of a list of syllables
abbrev pub spelled : List (Tree × ℤ) → List Letter
spelled [] = []
spelled (s ∷ ss) = power s.0 s.1 ++ spelled ss

-- the first atom is another one than a
abbrev pub IsFresh : Tree → List (Tree × ℤ) → Type 0
IsFresh a [] = Unit {0}
IsFresh a (s ∷ ss) = tree_same a s.0 ≡ false

-- neighbours have different atoms, and no exponent is 0
abbrev pub AreRuns : List (Tree × ℤ) → Type 0
AreRuns [] = Unit {0}
AreRuns (s ∷ ss) = IsFresh s.0 ss × (int_eq s.1 (pos 0) ≡ false) × AreRuns ss

-- a syllable is left out where its exponent is 0
abbrev pub kept : Tree × ℤ → List (Tree × ℤ) → List (Tree × ℤ)
kept s ss = cond (int_eq s.1 (pos 0)) ss (s ∷ ss)

-- ---- from the front: the runs of a word
abbrev pub put_front : Tree × ℤ → List (Tree × ℤ) → List (Tree × ℤ)
put_front s [] = kept s []
put_front s (t ∷ ts) = cond (tree_same s.0 t.0) (kept (t.0, s.1 +ℤ t.1) ts) (kept s (t ∷ ts))

abbrev pub syllable_of : Letter → Tree × ℤ
syllable_of l = (l.0, cond l.1 (negsuc 0) (pos 1))

unfoldable pub runs : List Letter → List (Tree × ℤ)
runs [] = []
runs (l ∷ w) = put_front (syllable_of l) (runs w)

-- ---- from the end: the stack
-- one syllable on a stack
abbrev pub push : List (Tree × ℤ) → Tree × ℤ → List (Tree × ℤ)
push [] s = kept s []
push (t ∷ []) s = cond (tree_same t.0 s.0) (kept (t.0, t.1 +ℤ s.1) []) (t ∷ kept s [])
push (t ∷ u ∷ ts) s = t ∷ push (u ∷ ts) s

-- the product: the syllables are pushed from the left
unfoldable pub joined : List (Tree × ℤ) → List (Tree × ℤ) → List (Tree × ℤ)
joined ss [] = ss
joined ss (t ∷ ts) = joined (push ss t) ts

-- the product with an inverse: the negated syllables are pushed from the right
unfoldable pub joined_inverse : List (Tree × ℤ) → List (Tree × ℤ) → List (Tree × ℤ)
joined_inverse ss [] = ss
joined_inverse ss (t ∷ ts) = push (joined_inverse ss ts) (t.0, neg_ℤ t.1)

abbrev pub repeated_join : List (Tree × ℤ) → ℕ → List (Tree × ℤ)
repeated_join ss zero = []
repeated_join ss (suc n) = joined (repeated_join ss n) ss

abbrev pub raised_join : List (Tree × ℤ) → ℤ → List (Tree × ℤ)
raised_join ss (pos n) = repeated_join ss n
raised_join ss (negsuc n) = repeated_join (joined_inverse [] ss) (suc n)

-- a power by an integer: of one syllable its exponent is multiplied
unfoldable pub raised_runs : List (Tree × ℤ) → ℤ → List (Tree × ℤ)
raised_runs [] k = []
raised_runs (s ∷ []) k = kept (s.0, s.1 *ℤ k) []
raised_runs (s ∷ t ∷ ts) k = raised_join (s ∷ t ∷ ts) k

-- ---- the syllables of a tree
abbrev pub runs_or : Tree → List (Tree × ℤ) → Option ℤ → List (Tree × ℤ)
runs_or a ss (Some k) = raised_runs ss k
runs_or a ss None = (a, pos 1) ∷ []

abbrev pub syllables : (Tree → Option ℤ) → Tree → List (Tree × ℤ)
syllables value (Lit s (suc zero)) = []
syllables value (App Mul s (Cons a (Cons b Nil))) = joined (syllables value a) (syllables value b)
syllables value (App Inv s (Cons a Nil)) = joined_inverse [] (syllables value a)
syllables value (App Div s (Cons a (Cons b Nil))) = joined_inverse (syllables value a) (syllables value b)
syllables value (App Npow s (Cons a (Cons k Nil))) = runs_or (App Npow s (Cons a (Cons k Nil))) (syllables value a) (value k)
syllables value (App Zpow s (Cons a (Cons k Nil))) = runs_or (App Zpow s (Cons a (Cons k Nil))) (syllables value a) (value k)
syllables value t = (t, pos 1) ∷ []

-- the sum of the absolute values of the exponents
abbrev pub total_size : List (Tree × ℤ) → ℕ
total_size [] = 0
total_size (s ∷ ss) = unsigned_abs s.1 + total_size ss
