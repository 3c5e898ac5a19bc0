-- What the calls that build trees leave: the arena grown, and the trees of the ids.
use Rattle.std.specs.Prelude.{◌≡◌, Bool, true, false, List, [], ◌∷◌, ◌++◌, All, Option, Some, None, Result, Ok, Err, ⊤}
use Rattle.alg_terms.specs.Tree.{Tree, Trees}
use Rattle.alg_law.specs.Declarations.{Declaration}
use Rattle.alg_certificate.specs.Tokens.{is_some_word}
use Rattle.alg_certificate.specs.Spelling.{Item, tree, word, semicolon}
use Rattle.alg_certificate_lines.specs.Known.{all_known}
use Rattle.alg_certificate_lines.specs.Typed.{typed_all}
use Rattle.alg_certificate_lines.specs.Steps.{all_good}
use Rattle.alg_expr.specs.declared.ids.ExprId.{ExprId}
use Rattle.alg_expr.specs.Ids.{tree_of, trees_at, IsIn}
use Rattle.alg_certificate_lines.specs.declared.faults.LineFault.{LineFault}
use Rattle.alg_certificate_lines.specs.declared.faults.LineFault.TheVariants as fault
use Rattle.alg_certificate_lines.specs.Taking.{Built, Opened}

-- an id for the tree, or want of memory; sorts that don't fit where there is no tree
abbrev pub Makes : List Tree → Option Tree → Result ExprId LineFault → Type 0
Makes new o (Ok e) = IsIn new e × (o ≡ Some (tree_of new e))
Makes new o (Err fault.BadName) = ⊥
Makes new o (Err fault.BadSort) = o ≡ None
Makes new o (Err fault.NoInstance) = ⊥
Makes new o (Err fault.Memory) = ⊤

-- the trees and the open nodes behind a token
abbrev pub Takes : List Tree → List ExprId → Opened → Option Built → Result (Unit {0}) LineFault → Type 0
Takes new after ps o (Ok u) = All (IsIn new) after × (o ≡ Some (trees_at new after, ps))
Takes new after ps o (Err fault.BadName) = ⊥
Takes new after ps o (Err fault.BadSort) = o ≡ None
Takes new after ps o (Err fault.NoInstance) = ⊥
Takes new after ps o (Err fault.Memory) = ⊤

-- what was made stands behind the others, where there was memory for it
abbrev pub Pushes : List ExprId → List ExprId → Result ExprId LineFault → Result (Unit {0}) LineFault → Type 0
Pushes before after (Ok e) (Ok u) = after ≡ before ++ e ∷ []
Pushes before after (Ok e) (Err f) = ⊤
Pushes before after (Err f) (Ok u) = ⊥
Pushes before after (Err f) (Err g) = ⊤

-- ids, and a flag beside them
abbrev pub Flagged : Type 0
Flagged = List ExprId × Bool

-- ids for all the trees, and whether each has its classes
abbrev pub MakesAll : List Declaration → List Tree → Option (List Tree) → Result Flagged LineFault → Type 0
MakesAll ds new o (Ok x) = All (IsIn new) x.0 × (o ≡ Some (trees_at new x.0)) × (x.1 ≡ all_good ds (trees_at new x.0))
MakesAll ds new o (Err fault.BadName) = ⊥
MakesAll ds new o (Err fault.BadSort) = o ≡ None
MakesAll ds new o (Err fault.NoInstance) = ⊥
MakesAll ds new o (Err fault.Memory) = ⊤

-- the ids of the trees with their sorts, or the first cause: a name that the base hasn't, then sorts that don't fit
abbrev pub ReadsTrees : List Declaration → List Tree → Trees → Result Flagged LineFault → Type 0
ReadsTrees ds new ts (Ok x) = (all_known ds ts ≡ true) × All (IsIn new) x.0 × (typed_all ds ts ≡ Some (trees_at new x.0))
ReadsTrees ds new ts (Err fault.BadName) = all_known ds ts ≡ false
ReadsTrees ds new ts (Err fault.BadSort) = (all_known ds ts ≡ true) × (typed_all ds ts ≡ None)
ReadsTrees ds new ts (Err fault.NoInstance) = ⊥
ReadsTrees ds new ts (Err fault.Memory) = all_known ds ts ≡ true

-- words and semicolons, and no trees
abbrev pub AreWords : List Item → Type 0
AreWords [] = ⊤
AreWords (tree t ∷ is) = ⊥
AreWords (word w ∷ is) = (is_some_word w ≡ true) × AreWords is
AreWords (semicolon ∷ is) = AreWords is
