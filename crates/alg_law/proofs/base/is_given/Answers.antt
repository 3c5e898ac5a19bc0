use Rattle.std.proofs.Common.{◌∙◌, ap, take}
use Rattle.alg_law.specs.Having.{instances_give}
use Rattle.alg_law.proofs.PrefixLemmas.{given-first, given-rest}
use Rattle.alg_law.proofs.base.is_given.Goals as goal

pub returns-then-gives : goal.returns-then-gives
returns-then-gives c =
    given-first (take c.base.inside.prefix c.base.inside.shared) c.base.inside.local c.args.base.now c.base.view_is c.args.sort c.args.class c.gives.result c.if-gives.true
    (c.gives.ensures ∙ ap (λ ds. instances_give (take c.base.inside.prefix ds) c.args.sort c.args.class) c.declared.ensures)

pub returns-else-gives : goal.returns-else-gives
returns-else-gives c =
    given-rest (take c.base.inside.prefix c.base.inside.shared) c.base.inside.local c.args.base.now c.base.view_is c.args.sort c.args.class c.gives.result c.any_grants.result c.if-gives.false
    (c.gives.ensures ∙ ap (λ ds. instances_give (take c.base.inside.prefix ds) c.args.sort c.args.class) c.declared.ensures)
    (c.any_grants.ensures ∙ ap (λ ds. instances_give ds c.args.sort c.args.class) c.declarations-lent.ensures.list)
