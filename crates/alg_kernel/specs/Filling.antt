-- Trees that fill patterns in prefix form, and the ids that stand for them where they can be made.
use Rattle.std.specs.Prelude.{◌≡◌, ℕ, List, [], ◌∷◌, length, take, drop, get_or, Option, Some, None, IfSome, ⊤}
use Rattle.alg_terms.specs.declared.sorts.Sort.{Sort}
use Rattle.alg_terms.specs.declared.sorts.Sort.TheVariants.{Nat}
use Rattle.alg_terms.specs.Symbols.{places}
use Rattle.alg_terms.specs.Tree.{Tree, Lit, App, of_list, Statement}
use Rattle.alg_expr.specs.declared.ids.ExprId.{ExprId}
use Rattle.alg_expr.specs.declared.ids.Stmt.{Stmt}
use Rattle.alg_expr.specs.Ids.{tree_of, IsIn, statement_of, IsStatementIn}
use Rattle.alg_law.specs.declared.patterns.Pat.{Pat as Node}
use Rattle.alg_law.specs.declared.patterns.Pat.TheVariants as node
use Rattle.alg_law.specs.Declarations.{Declaration}
use Rattle.alg_law.specs.WellSorted.{IsWellSorted, IsStatement}
use Rattle.alg_law.specs.Patterns.{sort_for, index_in}

-- the tree of a node before the trees of the nodes after it; a symbol takes as many of them as it has places
abbrev pub put_tree : List ℕ → Sort → List Tree → Node → List Tree → List Tree
put_tree ls s xs (node.Letter k) ts = get_or xs (index_in ls k) (Lit Nat 0) ∷ ts
put_tree ls s xs (node.Lit p n) ts = Lit (sort_for s p) n ∷ ts
put_tree ls s xs (node.App f p) ts = App f (sort_for s p) (of_list (take (length (places f)) ts)) ∷ drop (length (places f)) ts

abbrev pub filled : List ℕ → Sort → List Tree → List Node → List Tree
filled ls s xs [] = []
filled ls s xs (n ∷ ns) = put_tree ls s xs n (filled ls s xs ns)

-- the id stands for the tree; there may be none where the tree isn't well sorted
abbrev pub Stands : List Declaration → List Tree → Option ExprId → Tree → Type 0
Stands ds ts None t = IsWellSorted ds t → ⊥
Stands ds ts (Some e) t = IsIn ts e × (tree_of ts e ≡ t)

abbrev pub AllStand : List Declaration → List Tree → List (Option ExprId) → List Tree → Type 0
AllStand ds ts [] [] = ⊤
AllStand ds ts [] (t ∷ xs) = ⊥
AllStand ds ts (o ∷ os) [] = ⊥
AllStand ds ts (o ∷ os) (t ∷ xs) = Stands ds ts o t × AllStand ds ts os xs

-- an id of this arena, or none
abbrev pub IsEntryIn : List Tree → Option ExprId → Type 0
IsEntryIn ts o = IfSome o (IsIn ts)

-- the statement that was made; there may be none where it isn't well sorted
abbrev pub IsFilled : List Declaration → List Tree → Option Stmt → Statement → Type 0
IsFilled ds ts None s = IsStatement ds s → ⊥
IsFilled ds ts (Some q) s = IsStatementIn ts q × (statement_of ts q ≡ s)
