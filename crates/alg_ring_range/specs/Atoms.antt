-- The distinct atoms of trees, found by a walk downwards.
use Rattle.std.specs.Prelude.{◌≡◌, ℕ, zero, suc, ◌<◌, ◌≤◌, Bool, true, false, ◌||◌, ◌&&◌, Option, Some, None, List, [], ◌∷◌, ◌++◌, length, map, flat_map, get_or, slice_set, All, ⊤}
use Rattle.alg_terms.specs.declared.sorts.Sort.{Sort}
use Rattle.alg_terms.specs.declared.sorts.Sort.TheVariants.{Nat}
use Rattle.alg_terms.specs.declared.symbols.Sym.{Sym}
use Rattle.alg_terms.specs.declared.symbols.Sym.TheVariants.{Add, Mul, Neg, Sub, Inv, Div, Npow}
use Rattle.alg_terms.specs.Tree.{Tree, Lit, Var, App, Trees, Nil, Cons}
use Rattle.alg_terms.specs.Order.{tree_same}
use Rattle.alg_expr.specs.declared.ids.ExprId.{ExprId}
use Rattle.alg_expr.specs.Ids.{tree_of}
use Rattle.alg_expansions.specs.Setting.{Setting}
use Rattle.alg_expansions.specs.Visited.{is_listed}
use Rattle.alg_ring_range.specs.Numbers.{Numbers, all_numbers}
use Rattle.alg_ring_range.specs.declared.atoms.Atom.{Atom}
use Rattle.alg_ring_range.specs.declared.atoms.Atom.TheVariants.{Plain, Inverse}
use Rattle.alg_ring_range.specs.declared.atoms.Plan.{Plan}

-- a power without a number as its exponent is an atom
abbrev pub power_atoms : Tree → Option ℕ → List Tree → List Tree → List Tree
power_atoms t None p q = t ∷ []
power_atoms t (Some c) p q = p ++ q

-- the inverse of what isn't closed is an atom
abbrev pub inverse_atoms : {A : Type 0} → Tree → Option A → List Tree → List Tree
inverse_atoms t None p = t ∷ []
inverse_atoms t (Some f) p = p

-- by the head, the parts, their numbers and their atoms
abbrev pub visited_atoms_over : Sym → Sort → Trees → List Numbers → List (List Tree) → List Tree
visited_atoms_over Add s ts ns (p ∷ q ∷ []) = p ++ q
visited_atoms_over Sub s ts ns (p ∷ q ∷ []) = p ++ q
visited_atoms_over Mul s ts ns (p ∷ q ∷ []) = p ++ q
visited_atoms_over Neg s ts ns (p ∷ []) = p
visited_atoms_over Npow s ts (x ∷ y ∷ []) (p ∷ q ∷ []) = power_atoms (App Npow s ts) y.numeral p q
visited_atoms_over Inv s ts (x ∷ []) (p ∷ []) = inverse_atoms (App Inv s ts) x.fraction p
visited_atoms_over Div s (Cons a (Cons b Nil)) (x ∷ y ∷ []) (p ∷ q ∷ []) = p ++ inverse_atoms (App Inv s (Cons b Nil)) y.fraction q
visited_atoms_over f s ts ns ps = App f s ts ∷ []

-- the atoms of a tree, each as often as it is visited, in one pass upwards
abbrev mutual
  pub visited_atoms : Setting → Tree → List Tree
  visited_atoms k (Lit s n) = []
  visited_atoms k (Var d s) = Var d s ∷ []
  visited_atoms k (App f s ts) = visited_atoms_over f s ts (all_numbers k ts) (all_visited_atoms k ts)

  pub all_visited_atoms : Setting → Trees → List (List Tree)
  all_visited_atoms k Nil = []
  all_visited_atoms k (Cons t ts) = visited_atoms k t ∷ all_visited_atoms k ts

-- what the code keeps

abbrev pub tree_of_atom : List Tree → Atom → Tree
tree_of_atom trees (Plain e) = tree_of trees e
tree_of_atom trees (Inverse b s) = App Inv s (Cons (tree_of trees b) Nil)

abbrev pub atom_trees : List Tree → List Atom → List Tree
atom_trees trees as' = map (tree_of_atom trees) as'

-- no tree stands twice
abbrev pub AreOnce : List Tree → Type 0
AreOnce [] = ⊤
AreOnce (t ∷ ts) = (is_listed t ts ≡ false) × AreOnce ts

-- where the atoms of a node are: in two parts before it, and one atom
abbrev pub in_part : Setting → List Tree → Tree → Option ExprId → Bool
in_part k trees t None = false
in_part k trees t (Some a) = is_listed t (visited_atoms k (tree_of trees a))

abbrev pub is_atom : List Tree → Tree → Option Atom → Bool
is_atom trees t None = false
is_atom trees t (Some a) = tree_same (tree_of_atom trees a) t

abbrev pub IsBefore : ℕ → Option ExprId → Type 0
IsBefore n None = ⊤
IsBefore n (Some a) = a.index < n

abbrev pub IsAtomIn : ℕ → Option Atom → Type 0
IsAtomIn n None = ⊤
IsAtomIn n (Some (Plain e)) = e.index < n
IsAtomIn n (Some (Inverse b s)) = b.index < n

pub record IsPlan (k : Setting) (trees : List Tree) (e : ExprId) (p : Plan) : Type 0 where
  pub same : (t : Tree) → is_listed t (visited_atoms k (tree_of trees e)) ≡ (in_part k trees t p.first || (in_part k trees t p.second || is_atom trees t p.atom))
  pub first : IsBefore e.index p.first
  pub second : IsBefore e.index p.second
  pub atom : IsAtomIn (length trees) p.atom

-- the tree is an atom of one of the flagged trees below i
abbrev pub has_below : Setting → List Tree → List Bool → Tree → ℕ → Bool
has_below k trees flags t zero = false
has_below k trees flags t (suc i) = (get_or flags i false && is_listed t (visited_atoms k (get_or trees i (Lit Nat 0)))) || has_below k trees flags t i

-- the atom is in the list after, and nothing else is new
pub record Adds (trees : List Tree) (old new : List Atom) (a : Option Atom) : Type 0 where
  pub same : (t : Tree) → is_listed t (atom_trees trees new) ≡ (is_listed t (atom_trees trees old) || is_atom trees t a)
  pub once : AreOnce (atom_trees trees old) → AreOnce (atom_trees trees new)
  pub here : All (λ x. IsAtomIn (length trees) (Some x)) old → All (λ x. IsAtomIn (length trees) (Some x)) new

-- a part that is wanted
abbrev pub IsWantedPart : List Bool → Option ExprId → Type 0
IsWantedPart wanted None = ⊤
IsWantedPart wanted (Some a) = get_or wanted a.index false ≡ true

abbrev pub flagged : List Bool → Option ExprId → List Bool
flagged flags None = flags
flagged flags (Some a) = slice_set flags a.index true

-- how far the walk has come: the atoms of the roots are those that are seen, and those of the flagged trees below i
pub record HasCome (k : Setting) (trees roots : List Tree) (wanted flags : List Bool) (seen : List Atom) (i : ℕ) : Type 0 where
  pub within : i ≤ length trees
  pub size : length flags ≡ length trees
  pub only : (j : ℕ) → get_or flags j false ≡ true → get_or wanted j false ≡ true
  pub once : AreOnce (atom_trees trees seen)
  pub here : All (λ x. IsAtomIn (length trees) (Some x)) seen
  pub same : (t : Tree) → is_listed t (flat_map (visited_atoms k) roots) ≡ (is_listed t (atom_trees trees seen) || has_below k trees flags t i)
