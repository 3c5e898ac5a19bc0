-- What proofs rest on and lead to: lawful declarations and lemmas that follow from the laws, statements that are well sorted and derivable.
use Rattle.std.specs.Prelude.{◌≡◌, List, [], ◌∷◌, All, Option, Some, ⊤}
use Rattle.alg_terms.specs.Tree.{Statement}
use Rattle.alg_law.specs.Declarations.{Declaration}
use Rattle.alg_law.specs.Following.{IsWellFormed}
use Rattle.alg_law.specs.Lawful.{IsLawful}
use Rattle.alg_law.specs.WellSorted.{IsStatement}
use Rattle.alg_law.specs.Derivations.{Derivable}
use Rattle.alg_proof.specs.Following.{IsAdmissible}
use Rattle.alg_proof.specs.Steps.{Theory}

-- the declarations are those of a base, the lemmas follow from the laws, and the given statement is well sorted
pub record IsTheory (th : Theory) : Type 0 where
  pub well_formed : IsWellFormed th.declarations
  pub lawful : IsLawful th.declarations
  pub lemmas : All IsAdmissible th.lemmas
  pub given : (s : Statement) → th.given ≡ Some s → IsStatement th.declarations s

-- derivable by the laws, the hypotheses and the given statement
abbrev pub Follows : Theory → Statement → Type 0
Follows th s = Derivable th.declarations th.given s

module _ (ds : List Declaration) (given : Option Statement) where
  -- well sorted, and derivable
  pub record IsFine (s : Statement) : Type 0 where
    pub derivable : Derivable ds given s
    pub statement : IsStatement ds s

  abbrev pub AllFine : List Statement → Type 0
  AllFine [] = ⊤
  AllFine (s ∷ ss) = IsFine s × AllFine ss
