-- The entries of a certificate.
use Rattle.std.specs.Prelude.{◌≡◌, ℕ, List, [], ◌∷◌, ◌++◌, map, All, Option, Some, None, IfSome, ⊤}
use Rattle.std.specs.List.{flat_map}
use Rattle.alg_terms.specs.Tree.{Statement}
use Rattle.alg_proof.specs.Steps.{Step}
use Rattle.alg_certificate.specs.Reader.{TextLine, goal_line, given_line, proof_line, end_line}
use Rattle.alg_certificate.specs.Spelling.{HasSpelling, StatementHasSpelling, step_bytes, given_bytes}

-- the number of a goal, what its proof takes as given, and the steps of the proof
pub record Entry : Type 0 where
  pub number : ℕ
  pub given : Option Statement
  pub steps : List Step

abbrev pub given_lines : Option Statement → List TextLine
given_lines None = []
given_lines (Some s) = given_line (given_bytes s) ∷ []

abbrev pub proof_lines : List Step → List TextLine
proof_lines ls = map (λ l. proof_line (step_bytes l)) ls

-- an entry as it is written
abbrev pub lines_of : Entry → List TextLine
lines_of e = goal_line e.number ∷ (given_lines e.given ++ (proof_lines e.steps ++ end_line ∷ []))

-- an entry that can be written
pub record EntryHasSpelling (e : Entry) : Type 0 where
  pub given : IfSome e.given StatementHasSpelling
  pub steps : All HasSpelling e.steps

abbrev pub IsNoEnd : TextLine → Type 0
IsNoEnd (goal_line n) = ⊤
IsNoEnd (given_line t) = ⊤
IsNoEnd (proof_line t) = ⊤
IsNoEnd end_line = ⊥

-- the lines are those of these entries, and of a last one that doesn't end
pub record AreEntriesOf (ls : List TextLine) (es : List Entry) : Type 0 where
  pub spelled : All EntryHasSpelling es
  pub rest : List TextLine
  pub lines : ls ≡ flat_map lines_of es ++ rest
  pub unfinished : All IsNoEnd rest

-- entries that lines are, with a last one that doesn't end
pub record SomeEntries (ls : List TextLine) : Type 0 where
  pub entries : List Entry
  pub are : AreEntriesOf ls entries
