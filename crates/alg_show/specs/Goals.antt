-- What is shown as the statement of a goal.
use Rattle.std.specs.Prelude.{◌≡◌, ◌≤◌, ℕ, List, [], ◌∷◌, ◌++◌, length, false, codes, Ok}
use Rattle.std.specs.Str.{chars}
use Rattle.alg_terms.specs.Tree as terms
use Rattle.alg_law.specs.Declarations.{Declaration}
use Rattle.alg_lex.specs.Items.{items_from, beginning}
use Rattle.alg_commands.specs.Outcome.{IsOutcome}
use Rattle.alg_syntax.specs.declared.commands.Goal.{Goal}
use Rattle.alg_syntax.specs.declared.commands.Command.TheVariants.{Example}
use Rattle.alg_syntax.specs.declared.scripts.Step.TheVariants.{Procedure}
use Rattle.alg_syntax.specs.Commands.{spell_statement}
use Rattle.alg_syntax.specs.Limits.{is_deep}
use Rattle.alg_show.specs.Shown.{word, shown_statement}

-- `example : TEXT := by norm_num`
abbrev pub as_goal : List ℕ → List ℕ
as_goal text = codes "example" ++ (32 ∷ (58 ∷ (32 ∷ (text ++ (32 ∷ (58 ∷ 61 ∷ (32 ∷ (codes "by" ++ (32 ∷ codes "norm_num")))))))))

abbrev pub shown_goal : List Declaration → terms.Statement → Goal
shown_goal ds s = record { binders = []; statement = shown_statement ds s; script = record { first = Procedure (word (codes "norm_num")); further = [] } }

-- at most 3,000 tokens, and at no place more parentheses open than a command may have
pub record IsWithinLimits (ds : List Declaration) (s : terms.Statement) : Type 0 where
  pub short : length (spell_statement (shown_statement ds s)) ≤ 3000
  pub shallow : is_deep 0 (spell_statement (shown_statement ds s)) ≡ false

-- The command with this statement is read, and is the goal of what is shown.
abbrev pub IsReadAsGoal : List Declaration → terms.Statement → List ℕ → Type 0
IsReadAsGoal ds s text = IsOutcome (items_from beginning (chars (as_goal text))) (Ok (Example (shown_goal ds s)))
