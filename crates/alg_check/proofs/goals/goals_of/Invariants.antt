use Rattle.std.proofs.Common.{◌≡◌, All, map, take}
use Rattle.std.specs.List.{flat_map}
use Rattle.alg_check.specs.Goals.{goals_in}
use Rattle.alg_check.specs.Opened.{IsOpenGoal, goal_seen}
use Rattle.alg_check.proofs.goals.goals_of.Given as goal

abbrev pub invariant-loop-command : goal.invariant-loop-command
invariant-loop-command l = record {
  seen : map (goal_seen l.file) l.goals.items ≡ flat_map (goals_in l.file.arena l.file.shared) (take l.command-index l.file.commands);
  opened : All (IsOpenGoal l.file) l.goals.items;
}
