-- The sides of premises.
use Rattle.std.specs.Prelude.{List, map}
use Rattle.alg_expr.specs.declared.ids.ExprId.{ExprId}
use Rattle.alg_expr.specs.declared.ids.Stmt.{Stmt}

abbrev pub left_ids : List Stmt → List ExprId
left_ids ss = map (λ (s : Stmt). s.lhs) ss

abbrev pub right_ids : List Stmt → List ExprId
right_ids ss = map (λ (s : Stmt). s.rhs) ss
