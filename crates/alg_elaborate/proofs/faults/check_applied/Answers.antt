use Rattle.std.proofs.Common.{Some, subst, reverse}
use Rattle.alg_syntax.specs.Nodes.{tree_at}
use Rattle.alg_elaborate.specs.Raw.{name_in}
use Rattle.alg_elaborate.specs.Spines.{IsHead}
use Rattle.alg_elaborate.specs.Tasks.{faults_of_all}
use Rattle.alg_elaborate.proofs.Applications.{misused_first}
use Rattle.alg_elaborate.proofs.faults.check_applied.Goals as goal

pub returns-in-Some-argument_misused-clause-exact : goal.returns-in-Some-argument_misused-clause-exact
returns-in-Some-argument_misused-clause-exact c =
    let t = tree_at c.args.setting.now.nodes.now c.args.id in
    let h = subst (IsHead c.args.setting.now.nodes.now t) c.in-Some.is c.head-name.ensures.head in
    misused_first c.args.setting.now.scope.now c.args.setting.now.combining c.args.sort t (name_in (tree_at c.args.setting.now.nodes.now c.in-Some.name)) _ _ (faults_of_all c.args.setting.now.scope.now c.args.setting.now.combining c.args.setting.now.nodes.now (reverse c.args.todo.now.items)) (Some c.in-Some-argument_misused.cause) c.requires.here.1 h.1 c.meaning_at-stands_for.ensures c.head-name.ensures.count c.in_default-applied_fault.ensures.first c.in-Some-argument_misused.ensures
