-- The nodes of a tree that its expansion visits, and its atoms.
use Rattle.std.specs.Prelude.{Bool, false, ◌||◌, cond, List, [], ◌∷◌, ◌++◌, flat_map, Option, Some, None}
use Rattle.alg_terms.specs.declared.symbols.Sym.TheVariants.{Add, Mul, Neg, Sub, Inv, Div, Npow}
use Rattle.alg_terms.specs.Tree.{Tree, Lit, App, Nil, Cons}
use Rattle.alg_terms.specs.Order.{tree_same}
use Rattle.alg_sums.specs.Coefficients.{Coefficients}
use Rattle.alg_expansions.specs.Setting.{Setting}
use Rattle.alg_expansions.specs.Numerals.{numeral}
use Rattle.alg_expansions.specs.Closed.{closed_value}

-- where something is there
abbrev pub where_there : {A : Type 0} → Option A → List Tree → List Tree
where_there (Some x) ts = ts
where_there None ts = []

-- where it is lacking
abbrev pub where_lacking : {A : Type 0} → Option A → List Tree → List Tree
where_lacking (Some x) ts = []
where_lacking None ts = ts

-- the tree itself, and what is visited of the parts that its expansion is made of: nothing of an atom, of a power also
-- the exponent, and of what is inverted nothing but a closed tree
abbrev pub visited : {C : Type 0} → Coefficients C → Setting → Tree → List Tree
visited r k (App Add s (Cons a (Cons b Nil))) = App Add s (Cons a (Cons b Nil)) ∷ visited r k a ++ visited r k b
visited r k (App Sub s (Cons a (Cons b Nil))) = App Sub s (Cons a (Cons b Nil)) ∷ visited r k a ++ visited r k b
visited r k (App Mul s (Cons a (Cons b Nil))) = App Mul s (Cons a (Cons b Nil)) ∷ visited r k a ++ visited r k b
visited r k (App Neg s (Cons a Nil)) = App Neg s (Cons a Nil) ∷ visited r k a
visited r k (App Npow s (Cons a (Cons e Nil))) = App Npow s (Cons a (Cons e Nil)) ∷ where_there (numeral e) (visited r k a ++ visited r k e)
visited r k (App Inv s (Cons b Nil)) = App Inv s (Cons b Nil) ∷ where_there (closed_value r k b) (visited r k b)
visited r k (App Div s (Cons a (Cons b Nil))) = App Div s (Cons a (Cons b Nil)) ∷ visited r k a ++ where_there (closed_value r k b) (visited r k b)
visited r k t = t ∷ []

-- the atom that a node is, or that its expansion has beside those of its parts: of a quotient by a tree that isn't closed
-- the inverse
abbrev pub own_atoms : {C : Type 0} → Coefficients C → Setting → Tree → List Tree
own_atoms r k (Lit s n) = []
own_atoms r k (App Add s (Cons a (Cons b Nil))) = []
own_atoms r k (App Sub s (Cons a (Cons b Nil))) = []
own_atoms r k (App Mul s (Cons a (Cons b Nil))) = []
own_atoms r k (App Neg s (Cons a Nil)) = []
own_atoms r k (App Npow s (Cons a (Cons e Nil))) = where_lacking (numeral e) (App Npow s (Cons a (Cons e Nil)) ∷ [])
own_atoms r k (App Inv s (Cons b Nil)) = where_lacking (closed_value r k b) (App Inv s (Cons b Nil) ∷ [])
own_atoms r k (App Div s (Cons a (Cons b Nil))) = where_lacking (closed_value r k b) (App Inv s (Cons b Nil) ∷ [])
own_atoms r k t = t ∷ []

-- the atoms of a tree, each as often as it is visited
abbrev pub atoms : {C : Type 0} → Coefficients C → Setting → Tree → List Tree
atoms r k t = flat_map (own_atoms r k) (visited r k t)

-- whether a tree is in a list
abbrev pub is_listed : Tree → List Tree → Bool
is_listed t [] = false
is_listed t (u ∷ us) = tree_same u t || is_listed t us

-- each tree of a list once
abbrev pub distinct : List Tree → List Tree
distinct [] = []
distinct (t ∷ ts) = cond (is_listed t ts) (distinct ts) (t ∷ distinct ts)
