-- The combination of atoms that a tree of a commutative additive monoid denotes, with integers as coefficients.
use Rattle.std.specs.Prelude.{zero, List, [], ◌∷◌, ◌++◌, map, Option, Some, None, ℤ, pos, ◌*ℤ◌}
use Rattle.std.specs.Ordering.{eq_by_cmp}
use Rattle.alg_terms.specs.declared.symbols.Sym.TheVariants.{Add, Neg, Sub, Nsmul, Zsmul}
use Rattle.alg_terms.specs.Tree.{Tree, Lit, App, Nil, Cons}
use Rattle.alg_terms.specs.Order.{tree_cmp}
use Rattle.alg_sums.specs.Integers.{integers}
use Rattle.alg_sums.specs.Sum.{negated, normal_of, IsSameMap}

-- a tree that is taken as it is
abbrev pub atom : Tree → List (Tree × ℤ)
atom a = (a, pos 1) ∷ []

-- each coefficient times z
abbrev pub multiplied : ℤ → List (Tree × ℤ) → List (Tree × ℤ)
multiplied z p = map (λ t. (t.0, z *ℤ t.1)) p

-- a multiple is multiplied out where its factor has a number, and else is an atom
abbrev pub multiple_or : Tree → List (Tree × ℤ) → Option ℤ → List (Tree × ℤ)
multiple_or a p (Some z) = multiplied z p
multiple_or a p None = atom a

-- the terms of a tree, where value gives the integers that factors have
abbrev pub terms : (Tree → Option ℤ) → Tree → List (Tree × ℤ)
terms value (Lit s zero) = []
terms value (App Add s (Cons a (Cons b Nil))) = terms value a ++ terms value b
terms value (App Sub s (Cons a (Cons b Nil))) = terms value a ++ negated integers (terms value b)
terms value (App Neg s (Cons a Nil)) = negated integers (terms value a)
terms value (App Nsmul s (Cons k (Cons a Nil))) = multiple_or (App Nsmul s (Cons k (Cons a Nil))) (terms value a) (value k)
terms value (App Zsmul s (Cons k (Cons a Nil))) = multiple_or (App Zsmul s (Cons k (Cons a Nil))) (terms value a) (value k)
terms value t = atom t

-- the combination that a tree denotes: the one list of terms in rising order of atoms, none of them 0, that spells the
-- map of its terms
abbrev pub combination : (Tree → Option ℤ) → Tree → List (Tree × ℤ)
combination value t = normal_of integers tree_cmp (terms value t)

-- the trees denote one map of atoms to integers
abbrev pub HaveSameCombination : (Tree → Option ℤ) → Tree → Tree → Type 0
HaveSameCombination value t u = IsSameMap integers (eq_by_cmp tree_cmp) (terms value t) (terms value u)
