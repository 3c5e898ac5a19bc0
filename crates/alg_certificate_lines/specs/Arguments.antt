-- Declared functions that have arguments.
use Rattle.std.specs.Prelude.{List, [], ◌∷◌, ⊤}
use Rattle.alg_law.specs.Declarations.{Declaration, Carrier, Instance, Variable, Function, Hypothesis}
use Rattle.alg_certificate.specs.Spelling.{HasOne}

-- each declared function has an argument
abbrev pub HasArgument : Declaration → Type 0
HasArgument (Carrier n) = ⊤
HasArgument (Instance k c) = ⊤
HasArgument (Variable n s) = ⊤
HasArgument (Function n ss s) = HasOne ss
HasArgument (Hypothesis n h) = ⊤

abbrev pub HaveArguments : List Declaration → Type 0
HaveArguments [] = ⊤
HaveArguments (d ∷ ds) = HasArgument d × HaveArguments ds
