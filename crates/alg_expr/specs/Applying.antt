-- When a compound tree can be made.
use Rattle.std.specs.Prelude.{◌≡◌, ℕ, Bool, true, false, ◌||◌, not, nat_eq, List, length, map, Result, Ok, Err, ⊤}
use Rattle.alg_terms.specs.declared.sorts.Sort.{Sort}
use Rattle.alg_terms.specs.declared.symbols.Sym.{Sym}
use Rattle.alg_terms.specs.Tree.{Tree, sort_of_tree}
use Rattle.alg_terms.specs.Symbols.{is_built_in, places, arguments_fit}
use Rattle.alg_expr.specs.declared.ids.ExprId.{ExprId}
use Rattle.alg_expr.specs.declared.arena.ExprFault.{ExprFault}
use Rattle.alg_expr.specs.declared.arena.ExprFault.TheVariants as fault
use Rattle.alg_expr.specs.Ids.{tree_of}

-- the sorts of the trees of a list of ids
abbrev pub sorts_at : List Tree → List ExprId → List Sort
sorts_at ts es = map (λ e. sort_of_tree (tree_of ts e)) es

-- the number of arguments is right; a declared function takes any
abbrev pub arity_fits : Sym → ℕ → Bool
arity_fits f n = not (is_built_in f) || nat_eq n (length (places f))

-- the sorts are right, where the number of arguments is; a declared function takes any
abbrev pub sorts_fit : Sym → Sort → List Sort → Bool
sorts_fit f s ts = not (is_built_in f) || arguments_fit f s ts

-- what comes of an application: a tree, or the first fault
abbrev pub Builds : Sym → Sort → List Sort → Result ExprId ExprFault → Type 0
Builds f s ts (Ok e) = (arity_fits f (length ts) ≡ true) × (sorts_fit f s ts ≡ true)
Builds f s ts (Err fault.BadArity) = arity_fits f (length ts) ≡ false
Builds f s ts (Err fault.BadSort) = (arity_fits f (length ts) ≡ true) × (sorts_fit f s ts ≡ false)
Builds f s ts (Err fault.Memory) = ⊤
