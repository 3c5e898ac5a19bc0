use Rattle.std.proofs.Common.{◌≡◌, reverse}
use Rattle.alg_syntax.specs.Nodes.{tree_at}
use Rattle.alg_elaborate.specs.Raw.{meant}
use Rattle.alg_elaborate.specs.Faults.{first, faults}
use Rattle.alg_elaborate.specs.Tasks.{TasksIn, tasks_size, faults_of_all}
use Rattle.alg_elaborate.proofs.faults.first_fault.Given as goal

abbrev pub invariant-checking : goal.invariant-checking
invariant-checking l = record {
  within : TasksIn l.scope l.nodes (reverse l.todo.items);
  seeks : first (faults l.scope l.combining l.fn.sort (meant (tree_at l.nodes l.fn.id))) ≡ first (faults_of_all l.scope l.combining l.nodes (reverse l.todo.items));
}

abbrev pub decreases-checking : goal.decreases-checking
decreases-checking l = tasks_size l.nodes (reverse l.todo.items)
