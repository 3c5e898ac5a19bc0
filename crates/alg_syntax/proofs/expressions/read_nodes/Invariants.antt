use Rattle.std.proofs.Common.{length, reverse}
use Rattle.alg_syntax.specs.Frames.{FramesIn, TurnIn, turns_left}
use Rattle.alg_syntax.proofs.Turns.{Runs}
use Rattle.alg_syntax.proofs.expressions.read_nodes.Given as goal

abbrev pub invariant-reading : goal.invariant-reading
invariant-reading l = record {
  runs : Runs l.fn.left l.nodes l.turn l.waiting.items l.left;
  turn_in : TurnIn (length l.nodes) l.turn;
  frames_in : FramesIn (length l.nodes) (reverse l.waiting.items);
}

abbrev pub decreases-reading : goal.decreases-reading
decreases-reading l = turns_left l.turn l.waiting.items l.left
