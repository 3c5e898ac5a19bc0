use Rattle.std.proofs.Common.{rules, ◌≡◌, [], None, ap, ◌∙◌, subst}
use Rattle.std.specs.Prelude.{IfNone, IfOk}
use Rattle.alg_expr.specs.Ids.{statement_of}
use Rattle.alg_law.specs.Declarations.{declarations_of}
use Rattle.alg_elaborate.specs.Statements.{typed_statement}
use Rattle.alg_binders.specs.Adding.{Adds}
use Rattle.alg_binders.specs.Binders.{binders_faults, declared_by_all}
use Rattle.alg_binders.specs.CommandFaults.{proof_faults}
use Rattle.alg_binders.proofs.GoalParts.{goal_stated}
use Rattle.alg_binders.proofs.Kept.{declarations_on}
use Rattle.alg_binders.proofs.goals.enter_goal.Goals as goal

pub returns-in-Ok-clause-good : goal.returns-in-Ok-clause-good
returns-in-Ok-clause-good c =
    let s = c.args.scope.now in
    let g = c.args.goal.now in
    let after = c.add_binders.new.scope in
    let ts = c.elaborate_proof.new.arena in
    let old = declarations_of c.args.arena.now c.new-local.result.items in
    let told = declarations_of c.add_binders.new.arena c.add_binders.new.local.items in
    let n : c.in_ok-cause.field-0 ≡ None = search rules in
    let a = subst (λ o. IfNone o (Adds (binders_faults s c.as_slice.result.now) (declared_by_all s c.as_slice.result.now) s after old told)) n c.in_ok-cause.ensures.good in
    let b = subst (λ bs. Adds (binders_faults s bs) (declared_by_all s bs) s after old told) c.as_slice.ensures a in
    let p = subst (λ r. IfOk r (λ q. (proof_faults after g ≡ []) × (statement_of ts q ≡ typed_statement after g.statement))) c.in-Ok.is c.in_ok-stmt.ensures.good in
    goal_stated s after g ts _ old told (ap (declarations_of c.args.arena.now) c.new-local.ensures.items) b p.0 p.1
    (ap (declarations_of ts) c.of.ensures ∙ declarations_on c.add_binders.new.arena ts c.add_binders.new.local.items c.in_ok-stmt.ensures.kept c.in_ok-cause.ensures.here)
