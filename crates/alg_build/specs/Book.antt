-- What a builder holds, and what its calls do to that.
use Rattle.std.specs.Prelude.{◌≡◌, ℕ, List, [], ◌∷◌, ◌++◌, length, map, Option, Some, None, IsSome, Ok}
use Rattle.alg_terms.specs.declared.sorts.Sort.TheVariants.{Nat}
use Rattle.alg_terms.specs.Tree.{Tree, Lit, Trees, of_list, Statement, equal}
use Rattle.alg_expr.specs.declared.ids.ExprId.{ExprId}
use Rattle.alg_expr.specs.Ids.{tree_of, IsIn}
use Rattle.alg_expr.specs.Arena.{Extends}
use Rattle.alg_proof.specs.Steps.{Theory, Step, Rest, conclude}
use Rattle.alg_proof.specs.Causes.{line_at}

pub record Book : Type 0 where
  -- what the lines may rest on
  pub theory : Theory
  -- the trees of the arena
  pub trees : List Tree
  -- the lines, over trees
  pub steps : List Step
  -- what the lines conclude
  pub done : List Statement
  -- the trees that have numbers, in the order of these
  pub atoms : List Tree

abbrev pub nothing : Tree
nothing = Lit Nat 0

abbrev pub stated : Option Statement → Statement
stated None = equal nothing nothing
stated (Some s) = s

-- what line i concludes, counted from 1
unfoldable pub fact : Book → ℕ → Statement
fact b i = stated (line_at b.done i)

abbrev pub left_at : Book → ℕ → Tree
left_at b i = (fact b i).lhs

abbrev pub right_at : Book → ℕ → Tree
right_at b i = (fact b i).rhs

-- line i is there, counted from 1
abbrev pub IsThere : Book → ℕ → Type 0
IsThere b i = IsSome (line_at b.done i)

-- line i concludes this
pub record Concludes (b : Book) (i : ℕ) (s : Statement) : Type 0 where
  pub line : line_at b.done i ≡ Some s

-- line i concludes that x equals y
pub record Proves (b : Book) (i : ℕ) (x y : Tree) : Type 0 where
  pub line : line_at b.done i ≡ Some (equal x y)

-- line i is there and is an equation
abbrev pub IsEquation : Book → ℕ → Type 0
IsEquation b i = Proves b i (left_at b i) (right_at b i)

-- the left sides of these lines
abbrev pub lefts_at : Book → List ℕ → Trees
lefts_at b is = of_list (map (left_at b) is)

-- the right sides of these lines
abbrev pub rights_at : Book → List ℕ → Trees
rights_at b is = of_list (map (right_at b) is)

-- nothing that was there is changed
pub record Grows (a b : Book) : Type 0 where
  pub theory : b.theory ≡ a.theory
  pub trees : Extends a.trees b.trees
  pub steps : (more : List Step) × (b.steps ≡ a.steps ++ more)
  pub done : (more : List Statement) × (b.done ≡ a.done ++ more)
  pub atoms : (more : List Tree) × (b.atoms ≡ a.atoms ++ more)

-- trees may be new, and all else is as it was
pub record KeepsLines (a b : Book) : Type 0 where
  pub theory : b.theory ≡ a.theory
  pub trees : Extends a.trees b.trees
  pub steps : b.steps ≡ a.steps
  pub done : b.done ≡ a.done
  pub atoms : b.atoms ≡ a.atoms

-- the lines are as they were; trees and atoms may be new
pub record LeavesLines (a b : Book) : Type 0 where
  pub theory : b.theory ≡ a.theory
  pub trees : Extends a.trees b.trees
  pub steps : b.steps ≡ a.steps
  pub done : b.done ≡ a.done
  pub atoms : (more : List Tree) × (b.atoms ≡ a.atoms ++ more)

-- one good line is new, of this number, with this conclusion; trees may be new
pub record Adds (a b : Book) (n : ℕ) (l : Step) (s : Statement) : Type 0 where
  pub theory : b.theory ≡ a.theory
  pub trees : Extends a.trees b.trees
  pub steps : b.steps ≡ a.steps ++ l ∷ []
  pub done : b.done ≡ a.done ++ s ∷ []
  pub number : n ≡ length b.done
  pub good : conclude a.theory a.done l ≡ Ok s
  pub atoms : b.atoms ≡ a.atoms

-- the statement is given now, and the new line of this number is the one that concludes it
pub record Rests (a b : Book) (n : ℕ) (s : Statement) : Type 0 where
  pub theory : b.theory ≡ record a.theory { given = Some s }
  pub trees : b.trees ≡ a.trees
  pub steps : b.steps ≡ a.steps ++ Rest ∷ []
  pub done : b.done ≡ a.done ++ s ∷ []
  pub number : n ≡ length b.done
  pub atoms : b.atoms ≡ a.atoms

-- the id stands for this tree, and the lines are as they were
pub record Makes (a b : Book) (e : ExprId) (t : Tree) : Type 0 where
  pub keeps : KeepsLines a b
  pub here : IsIn b.trees e
  pub tree : tree_of b.trees e ≡ t
