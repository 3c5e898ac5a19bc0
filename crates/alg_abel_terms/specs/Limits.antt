-- When trees are too great for their combinations. All is told by the text, without adding terms.
use Rattle.std.specs.List.{list_any}
use Rattle.std.specs.Prelude.{zero, ◌^◌, nat_lt, Bool, false, ◌||◌, List, [], ◌∷◌, ◌++◌, length, flat_map, Option, ℤ}
use Rattle.alg_terms.specs.declared.symbols.Sym.TheVariants.{Add, Neg, Sub, Nsmul, Zsmul}
use Rattle.alg_terms.specs.Tree.{Tree, Lit, App, Nil, Cons}
use Rattle.alg_expansions.specs.Visited.{where_there, where_lacking, distinct}
use Rattle.alg_abel_terms.specs.Weight.{weight}

-- the tree itself, and what is visited of the parts that its combination is made of: of a multiple the right one alone,
-- and nothing of an atom
abbrev pub visited : (Tree → Option ℤ) → Tree → List Tree
visited value (App Add s (Cons a (Cons b Nil))) = App Add s (Cons a (Cons b Nil)) ∷ visited value a ++ visited value b
visited value (App Sub s (Cons a (Cons b Nil))) = App Sub s (Cons a (Cons b Nil)) ∷ visited value a ++ visited value b
visited value (App Neg s (Cons a Nil)) = App Neg s (Cons a Nil) ∷ visited value a
visited value (App Nsmul s (Cons k (Cons a Nil))) = App Nsmul s (Cons k (Cons a Nil)) ∷ where_there (value k) (visited value a)
visited value (App Zsmul s (Cons k (Cons a Nil))) = App Zsmul s (Cons k (Cons a Nil)) ∷ where_there (value k) (visited value a)
visited value t = t ∷ []

-- the atom that a node is
abbrev pub own_atoms : (Tree → Option ℤ) → Tree → List Tree
own_atoms value (Lit s zero) = []
own_atoms value (App Add s (Cons a (Cons b Nil))) = []
own_atoms value (App Sub s (Cons a (Cons b Nil))) = []
own_atoms value (App Neg s (Cons a Nil)) = []
own_atoms value (App Nsmul s (Cons k (Cons a Nil))) = where_lacking (value k) (App Nsmul s (Cons k (Cons a Nil)) ∷ [])
own_atoms value (App Zsmul s (Cons k (Cons a Nil))) = where_lacking (value k) (App Zsmul s (Cons k (Cons a Nil)) ∷ [])
own_atoms value t = t ∷ []

-- the atoms of a tree, each as often as it is visited, also where they cancel or are multiplied by 0
abbrev pub atoms : (Tree → Option ℤ) → Tree → List Tree
atoms value t = flat_map (own_atoms value) (visited value t)

-- the factor of a multiple is past the range of numbers
abbrev pub factor_past : (Tree → Bool) → Tree → Bool
factor_past past (App Nsmul s (Cons k (Cons a Nil))) = past k
factor_past past (App Zsmul s (Cons k (Cons a Nil))) = past k
factor_past past t = false

-- a factor past the range, or a weight above 2^126
abbrev pub has_past : (Tree → Option ℤ) → (Tree → Bool) → Tree → Bool
has_past value past t = factor_past past t || nat_lt (2 ^ 126) (weight value t)

-- some visited node of the tree is past a limit
abbrev pub is_out_of_range : (Tree → Option ℤ) → (Tree → Bool) → Tree → Bool
is_out_of_range value past t = list_any (has_past value past) (visited value t)

abbrev pub are_out_of_range : (Tree → Option ℤ) → (Tree → Bool) → List Tree → Bool
are_out_of_range value past ts = list_any (is_out_of_range value past) ts

-- the trees have more than 256 distinct atoms together
abbrev pub have_many_atoms : (Tree → Option ℤ) → List Tree → Bool
have_many_atoms value ts = nat_lt 256 (length (distinct (flat_map (atoms value) ts)))

-- they have more than 2^18 visited nodes together
abbrev pub have_many_nodes : (Tree → Option ℤ) → List Tree → Bool
have_many_nodes value ts = nat_lt (2 ^ 18) (length (flat_map (visited value) ts))

abbrev pub are_too_large : (Tree → Option ℤ) → List Tree → Bool
are_too_large value ts = have_many_atoms value ts || have_many_nodes value ts
