use Rattle.std.proofs.Common.{subst}
use Rattle.std.specs.Prelude.{Err}
use Rattle.alg_expr.specs.Applying.{Builds, sorts_at}
use Rattle.alg_elaborate.proofs.Compounds.{made_app, lit_sorts}
use Rattle.alg_elaborate.proofs.building.compound.Goals as goal

pub returns-in-Ok-clause-made : goal.returns-in-Ok-clause-made
returns-in-Ok-clause-made c =
    made_app c.args.arena.now _ c.in-Ok.id c.args.sym c.args.sort c.args.args.now c.in-Ok.ensures.ok c.in-Ok.ensures.cause.0 c.in-Ok.ensures.cause.1

pub returns-in-Err-BadSort-clause-made : goal.returns-in-Err-BadSort-clause-made
returns-in-Err-BadSort-clause-made c =
    let b = subst (λ x. Builds c.args.sym c.args.sort (sorts_at c.args.arena.now c.args.args.now) (Err x)) c.in-Err-BadSort.field-0-is c.in-Err-BadSort.ensures.cause in
    lit_sorts c.args.arena.now c.app.new.self _ c.args.sym c.args.sort c.args.args.now c.lit-in-Err-BadSort.result c.in-Err-BadSort.ensures.err c.lit-in-Err-BadSort.ensures.ok b.0 b.1
