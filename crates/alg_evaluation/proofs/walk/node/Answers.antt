use Rattle.alg_evaluation.proofs.Walking.{shown-applied, variable_found}
use Rattle.alg_evaluation.proofs.walk.node.Goals as goal

pub literal-requires-clause-stands : goal.literal-requires-clause-stands
literal-requires-clause-stands g c = rw (rw c.arena.ensures at c.in-Lit.ensures.shows) at c.requires.stands

pub returns-in-Lit-clause-found : goal.returns-in-Lit-clause-found
returns-in-Lit-clause-found g c = rw (rw c.arena.ensures at c.in-Lit.ensures.shows) (c.literal.ensures.found _)

pub returns-in-Var-clause-found : goal.returns-in-Var-clause-found
returns-in-Var-clause-found g c =
    let t = rw c.arena.ensures at c.in-Var.ensures.shows in
    rw (t, c.valueless.ensures) (variable_found _ _ _ _ _ (rw t at c.requires.stands))

pub gathered-requires : goal.gathered-requires
gathered-requires g c = (c.requires.parts.parts _ _ _ (rw c.arena.ensures at c.in-App.ensures.shows.0) c.in-App.ensures.shows.1).below

pub applied-requires-clause-applied : goal.applied-requires-clause-applied
applied-requires-clause-applied g c =
    let t = rw c.arena.ensures at c.in-App.ensures.shows.0 in
    rw (c.as_slice.ensures.value, c.in_ok-parts-in-App.ensures) (shown-applied _ c.args.cx.now c.args.e c.in-App.sym c.in-App.sort c.in-App.args.now c.args.found.now c.requires.stands t c.requires.lemmas (c.requires.parts.parts _ _ _ t c.in-App.ensures.shows.1))
