-- Readers on lists for what stands round expressions.
use Rattle.std.specs.Prelude.{◌==◌, ◌||◌, is_some, List, [], ◌∷◌, length, Bool, true, false, if◌then◌else◌, Option, Some, None, option_and_then}
use Rattle.std.specs.Str.{bytes_eq}
use Rattle.alg_syntax.specs.Written.{Written}
use Rattle.alg_syntax.specs.declared.signs.Operator as operator
use Rattle.alg_syntax.specs.declared.signs.Operator.TheVariants.{Add, Sub, Mul, Div, Mod, Smul, Pow}
use Rattle.alg_syntax.specs.declared.signs.Relation as relation
use Rattle.alg_syntax.specs.declared.signs.Fixed.TheVariants as word
use Rattle.alg_syntax.specs.declared.signs.Fixed.TheVariants.{Colon, Assign, Semicolon, Arrow, OpenBrace, CloseBrace, OpenBracket, CloseBracket, By, TypeWord}
use Rattle.alg_syntax.specs.declared.commands.Command.{Command}
use Rattle.alg_syntax.specs.declared.commands.Command.TheVariants.{Import, Variable, Theorem, Example}
use Rattle.alg_syntax.specs.declared.signs.Sign.{Sign}
use Rattle.alg_syntax.specs.declared.signs.Sign.TheVariants.{Number, Name, Open, Close, Operator, Inverse, Relation, Fixed}
use Rattle.alg_syntax.specs.declared.statements.Statement.{Statement}
use Rattle.alg_syntax.specs.declared.binders.Domain.{Domain}
use Rattle.alg_syntax.specs.declared.binders.Domain.TheVariants.{Carrier, Sorts, Holds}
use Rattle.alg_syntax.specs.declared.binders.Binder.{Binder}
use Rattle.alg_syntax.specs.declared.binders.Binder.TheVariants.{Explicit, Implicit, Instance}
use Rattle.alg_syntax.specs.declared.binders.Typed.{Typed}
use Rattle.alg_syntax.specs.declared.scripts.Step.{Step}
use Rattle.alg_syntax.specs.declared.scripts.Step.TheVariants.{Combination, Procedure}
use Rattle.alg_syntax.specs.declared.scripts.Further.{Further}
use Rattle.alg_syntax.specs.declared.scripts.Script.{Script}
use Rattle.alg_syntax.specs.declared.commands.Goal.{Goal}
use Rattle.alg_syntax.specs.Commands.{combination}
use Rattle.alg_syntax.specs.Front.{number_of, after_fixed, after_close, name_first}
use Rattle.alg_syntax.specs.Machine.{read_expression}
use Rattle.alg_syntax.specs.Parsers.{Parser, Skip, mapped, both, behind, ahead, choice, all_of}

abbrev pub relation_first : Parser relation.Relation
relation_first [] = None
relation_first (Number f n ∷ ts) = None
relation_first (Name n ∷ ts) = None
relation_first (Open f ∷ ts) = None
relation_first (Close ∷ ts) = None
relation_first (Operator o ∷ ts) = None
relation_first (Inverse ∷ ts) = None
relation_first (Relation r ∷ ts) = Some (r, ts)
relation_first (Fixed j ∷ ts) = None

abbrev pub read_statement : Parser Statement
read_statement = mapped (λ x. record { relation = x.1.0; lhs = x.0; rhs = x.1.1 }) (both read_expression (both relation_first read_expression))

abbrev pub has_name : List Sign → Bool
has_name ts = is_some (name_first ts)

abbrev pub read_names : Parser (List Written)
read_names = all_of name_first has_name

abbrev pub has_arrow : List Sign → Bool
has_arrow ts = is_some (after_fixed Arrow ts)

abbrev pub read_arrows : Parser (List Written)
read_arrows = all_of (behind (after_fixed Arrow) name_first) has_arrow

abbrev pub after_times : operator.Operator → Skip
after_times Add ts = None
after_times Sub ts = None
after_times Mul ts = Some ts
after_times Div ts = None
after_times Mod ts = None
after_times Smul ts = None
after_times Pow ts = None

-- what follows a `*`
abbrev pub after_star : Skip
after_star [] = None
after_star (Number f n ∷ ts) = None
after_star (Name n ∷ ts) = None
after_star (Open f ∷ ts) = None
after_star (Close ∷ ts) = None
after_star (Operator o ∷ ts) = after_times o ts
after_star (Inverse ∷ ts) = None
after_star (Relation r ∷ ts) = None
after_star (Fixed j ∷ ts) = None

abbrev pub closes : List Sign → Bool
closes [] = false
closes (Number f n ∷ ts) = false
closes (Name n ∷ ts) = false
closes (Open f ∷ ts) = false
closes (Close ∷ ts) = true
closes (Operator o ∷ ts) = false
closes (Inverse ∷ ts) = false
closes (Relation r ∷ ts) = false
closes (Fixed j ∷ ts) = true

-- a name that no expression goes on from
abbrev pub begins_sorts : List Sign → Bool
begins_sorts [] = false
begins_sorts (Number f n ∷ ts) = false
begins_sorts (Name n ∷ ts) = closes ts
begins_sorts (Open f ∷ ts) = false
begins_sorts (Close ∷ ts) = false
begins_sorts (Operator o ∷ ts) = false
begins_sorts (Inverse ∷ ts) = false
begins_sorts (Relation r ∷ ts) = false
begins_sorts (Fixed j ∷ ts) = false

abbrev pub read_carrier : Parser Domain
read_carrier ts = choice (after_star ts) (λ us. Some (Carrier true, us)) (Some (Carrier false, ts))

abbrev pub read_sorts : Parser Domain
read_sorts = mapped (λ x. Sorts x.0 x.1) (both name_first read_arrows)

abbrev pub read_domain : Parser Domain
read_domain ts = choice (after_fixed TypeWord ts) read_carrier (if begins_sorts ts then read_sorts ts else mapped Holds read_statement ts)

abbrev pub read_typed : Parser Typed
read_typed = mapped (λ x. record { first = x.0; more = x.1.0; domain = x.1.1 }) (both name_first (both read_names (behind (after_fixed Colon) read_domain)))

abbrev pub read_instance : Parser Binder
read_instance = mapped (λ x. Instance x.0 x.1) (both name_first (ahead name_first (after_fixed CloseBracket)))

abbrev pub opens_binder : List Sign → Bool
opens_binder [] = false
opens_binder (Number f n ∷ ts) = false
opens_binder (Name n ∷ ts) = false
opens_binder (Open f ∷ ts) = true
opens_binder (Close ∷ ts) = false
opens_binder (Operator o ∷ ts) = false
opens_binder (Inverse ∷ ts) = false
opens_binder (Relation r ∷ ts) = false
opens_binder (Fixed j ∷ ts) = (number_of j == 4) || (number_of j == 6)

abbrev pub read_braced : Parser Binder
read_braced ts = choice (after_fixed OpenBrace ts) (mapped Implicit (ahead read_typed (after_fixed CloseBrace))) (behind (after_fixed OpenBracket) read_instance ts)

abbrev pub read_binder : Parser Binder
read_binder [] = None
read_binder (Number f n ∷ ts) = None
read_binder (Name n ∷ ts) = None
read_binder (Open f ∷ ts) = mapped (λ t. Explicit f t) (ahead read_typed after_close) ts
read_binder (Close ∷ ts) = None
read_binder (Operator o ∷ ts) = None
read_binder (Inverse ∷ ts) = None
read_binder (Relation r ∷ ts) = None
read_binder (Fixed j ∷ ts) = read_braced (Fixed j ∷ ts)

abbrev pub read_binders : Parser (List Binder)
read_binders = all_of read_binder opens_binder

abbrev pub step_at : Written × List Sign → Option (Step × List Sign)
step_at x = if bytes_eq x.0.text combination then mapped (λ e. Combination x.0.begins_line e) read_expression x.1 else Some (Procedure x.0, x.1)

abbrev pub read_step : Parser Step
read_step ts = option_and_then step_at (name_first ts)

abbrev pub read_further : Parser Further
read_further ts = choice (after_fixed Semicolon ts) (mapped (λ s. record { semicolon = true; step = s }) read_step) (mapped (λ s. record { semicolon = false; step = s }) read_step ts)

abbrev pub separates : List Sign → Bool
separates [] = false
separates (Number f n ∷ ts) = false
separates (Name n ∷ ts) = n.begins_line
separates (Open f ∷ ts) = false
separates (Close ∷ ts) = false
separates (Operator o ∷ ts) = false
separates (Inverse ∷ ts) = false
separates (Relation r ∷ ts) = false
separates (Fixed j ∷ ts) = number_of j == 2

abbrev pub read_script : Parser Script
read_script = mapped (λ x. record { first = x.0; further = x.1 }) (both read_step (all_of read_further separates))

abbrev pub read_goal : Parser Goal
read_goal = mapped (λ x. record { binders = x.0; statement = x.1.0; script = x.1.1 }) (both read_binders (behind (after_fixed Colon) (both read_statement (behind (after_fixed Assign) (behind (after_fixed By) read_script)))))

-- at least one binder
abbrev pub some_binders : List Binder × List Sign → Option (Command × List Sign)
some_binders x = if length x.0 == 0 then None else Some (Variable x.0, x.1)

abbrev pub read_variable : Parser Command
read_variable ts = option_and_then some_binders (read_binders ts)

abbrev pub read_theorem : Parser Command
read_theorem = mapped (λ x. Theorem x.0 x.1) (both name_first read_goal)

abbrev pub read_example : Parser Command
read_example = mapped Example read_goal

abbrev pub read_any : Parser Command
read_any ts =
    choice (after_fixed word.Import ts) (mapped Import name_first)
    (choice (after_fixed word.Variable ts) read_variable
    (choice (after_fixed word.Theorem ts) read_theorem
    (behind (after_fixed word.Example) read_example ts)))
