-- What a binder says of each of its names.
use Rattle.std.specs.Prelude.{ℕ, List, ⊤}
use Rattle.alg_terms.specs.Tree.{Tree}
use Rattle.alg_expr.specs.Ids.{statement_of, IsStatementIn}
use Rattle.alg_law.specs.Declarations.{Declaration}
use Rattle.alg_law.specs.Declarations as declaration
use Rattle.alg_binders.specs.declared.domains.Said.{Said}
use Rattle.alg_binders.specs.declared.domains.Said.TheVariants as said
use Rattle.alg_binders.specs.Binders.{of_signature}

-- the declaration of a name
abbrev pub said_of : List Tree → Said → List ℕ → Declaration
said_of ts said.Carrier x = declaration.Carrier x
said_of ts (said.Sorts ks l) x = of_signature x ks l
said_of ts (said.Holds p) x = declaration.Hypothesis x (statement_of ts p)

-- the trees are of this arena
abbrev pub IsSaidIn : List Tree → Said → Type 0
IsSaidIn ts said.Carrier = ⊤
IsSaidIn ts (said.Sorts ks l) = ⊤
IsSaidIn ts (said.Holds p) = IsStatementIn ts p
