-- Entries that certify goals.
use Rattle.std.specs.Prelude.{◌≡◌, ℕ, ◌<◌, List, [], ◌∷◌, Option, Some, None, Ok, ⊤}
use Rattle.alg_terms.specs.Tree.{Statement}
use Rattle.alg_law.specs.Declarations.{Declaration}
use Rattle.alg_law.specs.Rows.{Row}
use Rattle.alg_proof.specs.Causes.{line_at}
use Rattle.alg_proof.specs.Steps.{Step}
use Rattle.alg_proof.specs.Valid.{IsValid}
use Rattle.alg_check.specs.Entries.{Entry}
use Rattle.alg_check.specs.Goals.{Goal}
use Rattle.alg_check.specs.Meant.{meant, meant_statement}
use Rattle.alg_check.specs.Judging.{if_small, theory_for}

-- each written step is this step over the declarations
abbrev pub AreMeant : List Declaration → List Step → List Step → Type 0
AreMeant ds [] [] = ⊤
AreMeant ds [] (k ∷ ks) = ⊥
AreMeant ds (l ∷ ls) [] = ⊥
AreMeant ds (l ∷ ls) (k ∷ ks) = (meant ds l ≡ Ok k) × AreMeant ds ls ks

-- the given statement of an entry is this one over the declarations, and isn't too long
abbrev pub IsMeantGiven : List Declaration → (written given : Option Statement) → Type 0
IsMeantGiven ds None given = given ≡ None
IsMeantGiven ds (Some s) given = (t : Statement) × (if_small (meant_statement ds s) ≡ Some t) × (given ≡ Some t)

-- the lines of an entry are valid for the goal, from its given statement
pub record Proves (rows : List Row) (g : Goal) (e : Entry) : Type 0 where
  pub given : Option Statement
  pub is_given : IsMeantGiven g.declarations e.given given
  pub steps : List Step
  pub are_meant : AreMeant g.declarations e.steps steps
  pub valid : IsValid (theory_for rows g.declarations given) steps g.statement

-- the numbers rise, each is that of a goal, and each entry proves its goal
abbrev pub Certify : List Row → List Goal → (before : ℕ) → List Entry → Type 0
Certify rows gs before [] = ⊤
Certify rows gs before (e ∷ es) = (before < e.number) × ((g : Goal) × (line_at gs e.number ≡ Some g) × Proves rows g e) × Certify rows gs e.number es
