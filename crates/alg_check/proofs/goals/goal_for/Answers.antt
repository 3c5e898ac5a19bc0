use Rattle.alg_check.proofs.Numbered.{goal_at}
use Rattle.alg_check.specs.Opened.{goal_seen}
use Rattle.alg_check.proofs.goals.goal_for.Goals as goal

pub returns-clause-seen : goal.returns-clause-seen
returns-clause-seen c = goal_at (goal_seen c.args._file.now) c.args.goals.now c.args.before c.args.number c.index-goals-number.result c.if-number-before.false c.if-number-goals.false c.index-goals-number.is
