-- The parts of a goal.
use Rattle.std.proofs.Common.{◌≡◌, refl, sym, ap, ◌∙◌, List, [], ◌∷◌, ◌++◌, Bool, true, false, Some, None}
use Rattle.alg_terms.specs.declared.sorts.Sort.{Sort}
use Rattle.alg_terms.specs.declared.relations.Rel.{Rel}
use Rattle.alg_terms.specs.Tree.{Tree}
use Rattle.alg_expr.specs.declared.ids.Stmt.{Stmt}
use Rattle.alg_expr.specs.Ids.{statement_of}
use Rattle.alg_law.specs.Declarations.{Declaration, declarations_of}
use Rattle.alg_syntax.specs.declared.commands.Goal.{Goal}
use Rattle.alg_syntax.specs.declared.statements.Statement.{Statement}
use Rattle.alg_names.specs.declared.scope.Scope.{Scope}
use Rattle.alg_names.specs.Entering.{entered}
use Rattle.alg_elaborate.specs.declared.causes.Cause.{Cause}
use Rattle.alg_elaborate.specs.Faults.{first}
use Rattle.alg_binders.specs.declared.goals.Stated.{Stated}
use Rattle.alg_binders.specs.Adding.{Adds}
use Rattle.alg_binders.specs.Binders.{binders_faults, declared_by_all}
use Rattle.alg_binders.specs.CommandFaults.{proof_faults, goal_faults}
use Rattle.alg_binders.specs.Stated.{IsStated}
use Rattle.alg_binders.proofs.Steps.{both_empty, first_left, first_right}
use Rattle.alg_elaborate.specs.Statements.{ordered, exchanges, statement_sort, typed_statement}

sort_ordered : (b : Bool) (r : Rel) (k : Sort) (x y : Tree) → (ordered b r k x y).sort ≡ k
sort_ordered true r k x y = refl
sort_ordered false r k x y = refl

-- the sort of a statement is that of its sides
pub sort_told : (s : Scope) (ts : List Tree) (p : Stmt) (q : Statement) → statement_of ts p ≡ typed_statement s q → p.sort ≡ statement_sort s q
sort_told s ts p q e = ap (λ x. x.sort) e ∙ sort_ordered (exchanges q.relation) _ (statement_sort s q) _ _

pub no_first : (cs : List Cause) → first cs ≡ None → cs ≡ []
no_first [] e = refl
no_first (c ∷ cs) e = cc

pub first_skip : (xs ys : List Cause) → first xs ≡ None → first (xs ++ ys) ≡ first ys
first_skip [] ys e = refl
first_skip (x ∷ xs) ys e = cc

pub fault_first : (s : Scope) (g : Goal) (c : Cause) → first (binders_faults s g.binders) ≡ Some c → first (goal_faults s g) ≡ Some c
fault_first s g c e = first_left (binders_faults s g.binders) (proof_faults (entered s (declared_by_all s g.binders)) g) c e

pub fault_later : (s after : Scope) (g : Goal) (old told : List Declaration) (c : Cause) → Adds (binders_faults s g.binders) (declared_by_all s g.binders) s after old told → first (proof_faults after g) ≡ Some c → first (goal_faults s g) ≡ Some c
fault_later s after g old told c a e =
    first_right (binders_faults s g.binders) (proof_faults (entered s (declared_by_all s g.binders)) g) c a.faultless (ap (λ t. first (proof_faults t g)) (sym a.entered) ∙ e)

pub goal_stated : (s after : Scope) (g : Goal) (ts : List Tree) (d : Stated) (old told : List Declaration) → old ≡ [] → Adds (binders_faults s g.binders) (declared_by_all s g.binders) s after old told → proof_faults after g ≡ [] → statement_of ts d.stmt ≡ typed_statement after g.statement → declarations_of ts d.local ≡ told → IsStated s g ts d
goal_stated s after g ts d old told o a p q l =
    record {
      faultless = both_empty (binders_faults s g.binders) (proof_faults (entered s (declared_by_all s g.binders)) g) a.faultless (ap (λ t. proof_faults t g) (sym a.entered) ∙ p);
      local = l ∙ (a.told ∙ ap (λ xs. xs ++ declared_by_all s g.binders) o);
      stated = q ∙ ap (λ t. typed_statement t g.statement) a.entered;
    }
