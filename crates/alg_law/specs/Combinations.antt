-- Combinations of hypotheses, in postfix order: what an operation acts on stands before it.
use Rattle.std.specs.Prelude.{◌≡◌, ℕ, List, [], ◌∷◌, map, All, true, ⊤, Option, Some, None}
use Rattle.std.specs.Option.{IsSome}
use Rattle.alg_terms.specs.declared.sorts.Sort.{Sort}
use Rattle.alg_terms.specs.declared.sorts.Sort.TheVariants.{Nat, Int, Rat, Decl}
use Rattle.alg_terms.specs.declared.symbols.Sym.{Sym}
use Rattle.alg_terms.specs.declared.symbols.Sym.TheVariants as sym
use Rattle.alg_terms.specs.declared.relations.Rel.TheVariants.{Eq}
use Rattle.alg_terms.specs.Tree.{Tree, App, of_list, Statement, sort_of_tree}
use Rattle.alg_terms.specs.Symbols.{serves}
use Rattle.alg_expr.specs.Ids.{tree_of, IsIn}
use Rattle.alg_law.specs.declared.combo.Combo.{Combo}
use Rattle.alg_law.specs.declared.combo.ComboStep.{ComboStep}
use Rattle.alg_law.specs.declared.combo.ComboStep.TheVariants as step
use Rattle.alg_law.specs.Declarations.{Declaration, hypotheses}
use Rattle.alg_law.specs.Prefixes.{line_at}
use Rattle.alg_law.specs.WellSorted.{has_classes, IsWellSorted}

-- a hypothesis by its number from 1, an expression, or an operation on what stands before it
pub data Part : Type 0 where
  hypothesis : ℕ → Part
  expression : Tree → Part
  negative : Part
  sum : Part
  difference : Part
  product : Part
  quotient : Part

abbrev pub part_of : List Tree → ComboStep → Part
part_of ts (step.Hyp n) = hypothesis n
part_of ts (step.Expr e) = expression (tree_of ts e)
part_of ts step.Neg = negative
part_of ts step.Add = sum
part_of ts step.Sub = difference
part_of ts step.Mul = product
part_of ts step.Div = quotient

-- what steps of the code say over the trees of an arena
abbrev pub parts_at : List Tree → List ComboStep → List Part
parts_at ts cs = map (part_of ts) cs

abbrev pub parts_of : List Tree → Combo → List Part
parts_of ts c = parts_at ts c.steps

-- an expression is of the arena
abbrev pub IsStepIn : List Tree → ComboStep → Type 0
IsStepIn ts (step.Hyp n) = ⊤
IsStepIn ts (step.Expr e) = IsIn ts e
IsStepIn ts step.Neg = ⊤
IsStepIn ts step.Add = ⊤
IsStepIn ts step.Sub = ⊤
IsStepIn ts step.Mul = ⊤
IsStepIn ts step.Div = ⊤

-- the difference and the quotient of two numbers of a sort
abbrev pub difference_of : Sort → Sym
difference_of Nat = sym.NatSub
difference_of Int = sym.Sub
difference_of Rat = sym.Sub
difference_of (Decl d) = sym.Sub

abbrev pub quotient_of : Sort → Sym
quotient_of Nat = sym.IDiv
quotient_of Int = sym.IDiv
quotient_of Rat = sym.Div
quotient_of (Decl d) = sym.Div

-- an operation on both components of the newest pair, or of the newest two; none where there are too few
abbrev pub acted : Sym → Sort → List (Tree × Tree) → Option (List (Tree × Tree))
acted f k [] = None
acted f k (p ∷ ps) = Some ((App f k (of_list (p.0 ∷ [])), App f k (of_list (p.1 ∷ []))) ∷ ps)

abbrev pub joined : Sym → Sort → List (Tree × Tree) → Option (List (Tree × Tree))
joined f k [] = None
joined f k (q ∷ []) = None
joined f k (q ∷ p ∷ ps) = Some ((App f k (of_list (p.0 ∷ q.0 ∷ [])), App f k (of_list (p.1 ∷ q.1 ∷ []))) ∷ ps)

abbrev pub sides : Option Statement → List (Tree × Tree) → Option (List (Tree × Tree))
sides None ps = None
sides (Some h) ps = Some ((h.lhs, h.rhs) ∷ ps)

-- the pairs after a part, newest first: a hypothesis is its two sides, an expression is twice itself
abbrev pub after : List Statement → Sort → Part → List (Tree × Tree) → Option (List (Tree × Tree))
after hs k (hypothesis n) ps = sides (line_at hs n) ps
after hs k (expression t) ps = Some ((t, t) ∷ ps)
after hs k negative ps = acted sym.Neg k ps
after hs k sum ps = joined sym.Add k ps
after hs k difference ps = joined (difference_of k) k ps
after hs k product ps = joined sym.Mul k ps
after hs k quotient ps = joined (quotient_of k) k ps

abbrev pub after_some : List Statement → Sort → Part → Option (List (Tree × Tree)) → Option (List (Tree × Tree))
after_some hs k x None = None
after_some hs k x (Some ps) = after hs k x ps

-- and after parts in order
abbrev pub after_all : List Statement → Sort → List Part → Option (List (Tree × Tree)) → Option (List (Tree × Tree))
after_all hs k [] o = o
after_all hs k (x ∷ xs) o = after_all hs k xs (after_some hs k x o)

abbrev pub only : Option (List (Tree × Tree)) → Option (Tree × Tree)
only None = None
only (Some []) = None
only (Some (p ∷ [])) = Some p
only (Some (p ∷ q ∷ ps)) = None

-- The two trees of a combination of the sort k. Where an operation has too little to act on, where a hypothesis isn't
-- there, or where more than one pair is left, there are none.
abbrev pub pair_of : List Declaration → Sort → List Part → Option (Tree × Tree)
pair_of ds k xs = only (after_all (hypotheses ds) k xs (Some []))

-- the sort has the symbol
abbrev pub Supports : List Declaration → Sym → Sort → Type 0
Supports ds f k = (serves f k ≡ true) × (has_classes ds f k ≡ true)

-- an equation of the sort k by its number, a well sorted tree of the sort k, or an operation that the sort k has
abbrev pub IsPart : List Declaration → Sort → Part → Type 0
IsPart ds k (hypothesis n) = (h : Statement) × (line_at (hypotheses ds) n ≡ Some h) × (h.rel ≡ Eq) × (h.sort ≡ k)
IsPart ds k (expression t) = IsWellSorted ds t × (sort_of_tree t ≡ k)
IsPart ds k negative = Supports ds sym.Neg k
IsPart ds k sum = Supports ds sym.Add k
IsPart ds k difference = Supports ds (difference_of k) k
IsPart ds k product = Supports ds sym.Mul k
IsPart ds k quotient = Supports ds (quotient_of k) k

-- parts that come to two trees of the sort k
pub record IsCombination (ds : List Declaration) (k : Sort) (xs : List Part) : Type 0 where
  pub parts : All (IsPart ds k) xs
  pub pair : IsSome (pair_of ds k xs)
