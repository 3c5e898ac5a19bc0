-- The numbers of distinct trees, in the order of their first use.
use Rattle.std.specs.Prelude.{ℕ, suc, if◌then◌else◌, List, [], ◌∷◌}
use Rattle.alg_terms.specs.Tree.{Tree}
use Rattle.alg_terms.specs.Order.{tree_same}

-- the tree goes last, where it isn't there
abbrev pub with_atom : List Tree → Tree → List Tree
with_atom [] t = t ∷ []
with_atom (a ∷ ts) t = if tree_same a t then a ∷ ts else a ∷ with_atom ts t

-- the place where the tree stands first, from 0, or where it would go
abbrev pub number_of : List Tree → Tree → ℕ
number_of [] t = 0
number_of (a ∷ ts) t = if tree_same a t then 0 else suc (number_of ts t)
