-- The calls of a script, over the trees of an arena, and what extensions cover.
use Rattle.std.specs.Prelude.{List, All, Bool, ⊤}
use Rattle.alg_terms.specs.declared.symbols.Sym.{Sym}
use Rattle.alg_terms.specs.Tree.{Tree}
use Rattle.alg_law.specs.Combinations.{parts_of, IsStepIn}
use Rattle.alg_parse.specs.declared.procedures.Proc.{Proc}
use Rattle.alg_parse.specs.declared.procedures.Proc.TheVariants as proc
use Rattle.alg_parse.specs.Told.{Call, plain, combination}
use Rattle.alg_exts.specs.Covers.{Cover, covered_by}

-- a procedure of the code as a call
abbrev pub call_in : List Tree → Proc → Call
call_in ts (proc.Named p) = plain p
call_in ts (proc.LinearCombination c) = combination (parts_of ts c)

-- its expressions are of the arena
abbrev pub IsProcIn : List Tree → Proc → Type 0
IsProcIn ts (proc.Named p) = ⊤
IsProcIn ts (proc.LinearCombination c) = All (IsStepIn ts) c.steps

-- what those of two lists of extensions cover and handle that are on
abbrev pub cover_of : {N S : Type 0} → (N → Sym → Bool) → (S → Sym → Bool) → List N → List Bool → List S → List Bool → Cover
cover_of covers handles num num_on sign sign_on = record { covers = covered_by covers num num_on; handles = covered_by handles sign sign_on }
