use Rattle.alg_expr.specs.Ids.{statement_of}
use Rattle.alg_show.proofs.FewestGroups.{has_fewest_groups}
use Rattle.alg_show.proofs.Whole.{tasks_of, shown_back, read_goal}
use Rattle.alg_show.proofs.statements.show.Goals as goal

pub returns-clause-reads_back : goal.returns-clause-reads_back
returns-clause-reads_back c =
    shown_back _ _ c.args.s _ _ _ _ c.len-declared.ensures.well_formed c.requires.sorted c.in_ok-ask.ensures
    (tasks_of c.args.s _ _ _ _ _ c.new-tasks.ensures.items c.in_ok-add.ensures c.in_ok-add-2.ensures c.in_ok-add-3.ensures) c.new-out.ensures.bytes c.in_ok-run.ensures

pub returns-clause-fewest : goal.returns-clause-fewest
returns-clause-fewest c = has_fewest_groups c.args.base.now (statement_of c.args.arena.now c.args.s)

pub returns-clause-read : goal.returns-clause-read
returns-clause-read c =
    read_goal _ _ c.args.s _ _ _ _ c.len-declared.ensures.well_formed c.requires.sorted c.in_ok-ask.ensures
    (tasks_of c.args.s _ _ _ _ _ c.new-tasks.ensures.items c.in_ok-add.ensures c.in_ok-add-2.ensures c.in_ok-add-3.ensures) c.new-out.ensures.bytes c.in_ok-run.ensures
