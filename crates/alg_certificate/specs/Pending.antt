-- What is still to be written of a tree: of each node that is open, newest last, the arguments that are left.
use Rattle.std.specs.Prelude.{ℕ, List, [], ◌∷◌, ◌++◌, All}
use Rattle.std.specs.Borrow.{Bor}
use Rattle.alg_terms.specs.Tree.{Tree, of_list}
use Rattle.alg_expr.specs.declared.ids.ExprId.{ExprId}
use Rattle.alg_expr.specs.Ids.{trees_at, IsIn}
use Rattle.alg_certificate.specs.Tokens.{Close}
use Rattle.alg_certificate.specs.Spelling.{bytes, spell_all}
use Rattle.alg_certificate.specs.InRange.{TreesInRange}

abbrev pub rest_of_node : List Tree → List ExprId → List ℕ
rest_of_node ts es = bytes (spell_all (of_list (trees_at ts es)) ++ Close ∷ [])

abbrev pub pending : List Tree → List (Bor (List ExprId)) → List ℕ
pending ts [] = []
pending ts (es ∷ nodes) = pending ts nodes ++ rest_of_node ts es.now

-- the arguments are of the arena
abbrev pub AreInside : List Tree → List (Bor (List ExprId)) → Type 0
AreInside ts nodes = All (λ es. All (IsIn ts) es.now) nodes

-- the numbers and literals in the arguments are in range
abbrev pub AreInRange : List Tree → List (Bor (List ExprId)) → Type 0
AreInRange ts nodes = All (λ es. TreesInRange (of_list (trees_at ts es.now))) nodes
