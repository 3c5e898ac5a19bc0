use Rattle.std.proofs.Common.{rules, ◌≡◌, ◌∙◌, subst}
use Rattle.alg_syntax.specs.Nodes.{tree_at}
use Rattle.alg_elaborate.specs.Spines.{IsHead}
use Rattle.alg_elaborate.proofs.Ups.{applied_planned}
use Rattle.alg_elaborate.proofs.building.plan_applied.Goals as goal

pub returns-clause-exact : goal.returns-clause-exact
returns-clause-exact c =
    let h = subst (IsHead c.args.source.now.nodes.now (tree_at c.args.source.now.nodes.now c.args.id)) c.in-Some.is c.head-name.ensures.head in
    let l : c.head-name.result.1 ≡ c.arity.result = search rules in
    applied_planned c.args.source.now.scope.now c.args.source.now.nodes.now c.args.sort c.args.id c.in-Some.name c.head-name.result.1 c.args.start _ c.symbol_of.result c.args.jobs.now.items _ _ c.requires.here.1 h.1 c.meaning_at-stands_for.ensures c.head-name.ensures.count (l ∙ c.arity.ensures) c.symbol_of.ensures c.in_ok-push.ensures.items c.in_ok-push-2.ensures.items
