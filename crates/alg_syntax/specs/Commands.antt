-- Statements, binders, scripts and commands: how each is spelled, and what may stand where.
use Rattle.std.specs.Prelude.{◌≡◌, ℕ, ◌<◌, ◌||◌, List, [], ◌∷◌, ◌++◌, length, Bool, true, false, codes}
use Rattle.std.specs.Str.{bytes_eq}
use Rattle.alg_syntax.specs.Written.{Written}
use Rattle.alg_syntax.specs.declared.signs.Operator.TheVariants.{Mul}
use Rattle.alg_syntax.specs.declared.signs.Fixed.TheVariants.{Colon, Assign, Semicolon, Arrow, OpenBrace, CloseBrace, OpenBracket, CloseBracket, Import, Variable, Theorem, Example, By, TypeWord}
use Rattle.alg_syntax.specs.declared.signs.Sign.{Sign}
use Rattle.alg_syntax.specs.declared.signs.Sign.TheVariants.{Name, Open, Close, Operator, Relation, Fixed}
use Rattle.alg_syntax.specs.declared.statements.Statement.{Statement}
use Rattle.alg_syntax.specs.declared.binders.Domain.{Domain}
use Rattle.alg_syntax.specs.declared.binders.Domain.TheVariants as domain
use Rattle.alg_syntax.specs.declared.binders.Typed.{Typed}
use Rattle.alg_syntax.specs.declared.binders.Binder.{Binder}
use Rattle.alg_syntax.specs.declared.binders.Binder.TheVariants as binder
use Rattle.alg_syntax.specs.declared.scripts.Step.{Step}
use Rattle.alg_syntax.specs.declared.scripts.Step.TheVariants as step
use Rattle.alg_syntax.specs.declared.scripts.Further.{Further}
use Rattle.alg_syntax.specs.declared.scripts.Script.{Script}
use Rattle.alg_syntax.specs.declared.commands.Goal.{Goal}
use Rattle.alg_syntax.specs.declared.commands.Command.{Command}
use Rattle.alg_syntax.specs.declared.commands.Command.TheVariants as command
use Rattle.alg_syntax.specs.Spelling.{spell_all, AllFit}
use Rattle.alg_syntax.specs.Expressions.{spell, Fits}

abbrev pub spell_statement : Statement → List Sign
spell_statement s = spell s.lhs ++ Relation s.relation ∷ spell s.rhs

abbrev pub FitsStatement : Statement → Type 0
FitsStatement s = Fits s.lhs × Fits s.rhs

abbrev pub spell_names : List Written → List Sign
spell_names = spell_all (λ n. Name n ∷ [])

abbrev pub spell_arrows : List Written → List Sign
spell_arrows = spell_all (λ n. Fixed Arrow ∷ Name n ∷ [])

abbrev pub spell_domain : Domain → List Sign
spell_domain (domain.Carrier true) = Fixed TypeWord ∷ Operator Mul ∷ []
spell_domain (domain.Carrier false) = Fixed TypeWord ∷ []
spell_domain (domain.Sorts n ns) = Name n ∷ spell_arrows ns
spell_domain (domain.Holds s) = spell_statement s

abbrev pub FitsDomain : Domain → Type 0
FitsDomain (domain.Carrier starred) = Unit {0}
FitsDomain (domain.Sorts n ns) = Unit {0}
FitsDomain (domain.Holds s) = FitsStatement s

abbrev pub spell_typed : Typed → List Sign
spell_typed t = Name t.first ∷ (spell_names t.more ++ Fixed Colon ∷ spell_domain t.domain)

abbrev pub spell_binder : Binder → List Sign
spell_binder (binder.Explicit f t) = Open f ∷ (spell_typed t ++ Close ∷ [])
spell_binder (binder.Implicit t) = Fixed OpenBrace ∷ (spell_typed t ++ Fixed CloseBrace ∷ [])
spell_binder (binder.Instance class sort) = Fixed OpenBracket ∷ Name class ∷ Name sort ∷ Fixed CloseBracket ∷ []

abbrev pub FitsBinder : Binder → Type 0
FitsBinder (binder.Explicit f t) = FitsDomain t.domain
FitsBinder (binder.Implicit t) = FitsDomain t.domain
FitsBinder (binder.Instance class sort) = Unit {0}

abbrev pub combination : List ℕ
combination = codes "linear_combination"

abbrev pub spell_step : Step → List Sign
spell_step (step.Combination f e) = Name (record { begins_line = f; text = combination }) ∷ spell e
spell_step (step.Procedure n) = Name n ∷ []

-- whether the procedure begins a line
abbrev pub begins_line : Step → Bool
begins_line (step.Combination f e) = f
begins_line (step.Procedure n) = n.begins_line

-- the name `linear_combination` needs its expression
abbrev pub FitsStep : Step → Type 0
FitsStep (step.Combination f e) = Fits e
FitsStep (step.Procedure n) = bytes_eq n.text combination ≡ false

abbrev pub separator : Bool → List Sign
separator true = Fixed Semicolon ∷ []
separator false = []

abbrev pub spell_further : Further → List Sign
spell_further s = separator s.semicolon ++ spell_step s.step

-- without a `;` the procedure begins a line
abbrev pub FitsFurther : Further → Type 0
FitsFurther s = ((s.semicolon || begins_line s.step) ≡ true) × FitsStep s.step

abbrev pub spell_script : Script → List Sign
spell_script s = spell_step s.first ++ spell_all spell_further s.further

abbrev pub FitsScript : Script → Type 0
FitsScript s = FitsStep s.first × AllFit FitsFurther s.further

abbrev pub spell_goal : Goal → List Sign
spell_goal g = spell_all spell_binder g.binders ++ Fixed Colon ∷ (spell_statement g.statement ++ Fixed Assign ∷ Fixed By ∷ spell_script g.script)

abbrev pub FitsGoal : Goal → Type 0
FitsGoal g = AllFit FitsBinder g.binders × (FitsStatement g.statement × FitsScript g.script)

abbrev pub spell_command : Command → List Sign
spell_command (command.Import n) = Fixed Import ∷ Name n ∷ []
spell_command (command.Variable bs) = Fixed Variable ∷ spell_all spell_binder bs
spell_command (command.Theorem n g) = Fixed Theorem ∷ Name n ∷ spell_goal g
spell_command (command.Example g) = Fixed Example ∷ spell_goal g

abbrev pub FitsCommand : Command → Type 0
FitsCommand (command.Import n) = Unit {0}
FitsCommand (command.Variable bs) = (0 < length bs) × AllFit FitsBinder bs
FitsCommand (command.Theorem n g) = FitsGoal g
FitsCommand (command.Example g) = FitsGoal g

-- the command that these signs, all of them, spell
abbrev pub IsRead : List Sign → Command → Type 0
IsRead ts c = (ts ≡ spell_command c) × FitsCommand c
