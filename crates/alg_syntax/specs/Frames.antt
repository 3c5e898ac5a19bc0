-- What the reader keeps, as frames over expressions.
use Rattle.std.specs.Prelude.{ℕ, ◌+◌, ◌*◌, ◌<◌, List, [], ◌∷◌, length, ⊤}
use Rattle.alg_syntax.specs.declared.signs.Sign.{Sign}
use Rattle.alg_syntax.specs.declared.expressions.Waiting.{Waiting}
use Rattle.alg_syntax.specs.declared.expressions.Waiting.TheVariants as waiting
use Rattle.alg_syntax.specs.declared.expressions.Turn.{Turn}
use Rattle.alg_syntax.specs.declared.expressions.Turn.TheVariants as turn
use Rattle.alg_syntax.specs.Expressions.{Tree}
use Rattle.alg_syntax.specs.Machine.{Mode, Begin, Go, Frame, In_minus, In_right, In_argument, In_group}
use Rattle.alg_syntax.specs.Nodes.{tree_at}

abbrev pub frame_of : List Tree → Waiting → Frame
frame_of ts (waiting.Minus m) = In_minus m
frame_of ts (waiting.Right m a o) = In_right m (tree_at ts a) o
frame_of ts (waiting.Argument m a) = In_argument m (tree_at ts a)
frame_of ts (waiting.Group m g) = In_group m g

abbrev pub frames_of : List Tree → List Waiting → List Frame
frames_of ts [] = []
frames_of ts (w ∷ ws) = frame_of ts w ∷ frames_of ts ws

abbrev pub mode_of : List Tree → Turn → Mode
mode_of ts (turn.Begin m) = Begin m
mode_of ts (turn.Go m a) = Go m (tree_at ts a)

abbrev pub FrameIn : ℕ → Waiting → Type 0
FrameIn n (waiting.Minus m) = ⊤
FrameIn n (waiting.Right m a o) = a < n
FrameIn n (waiting.Argument m a) = a < n
FrameIn n (waiting.Group m g) = ⊤

abbrev pub FramesIn : ℕ → List Waiting → Type 0
FramesIn n [] = ⊤
FramesIn n (w ∷ ws) = FrameIn n w × FramesIn n ws

abbrev pub TurnIn : ℕ → Turn → Type 0
TurnIn n (turn.Begin m) = ⊤
TurnIn n (turn.Go m a) = a < n

abbrev pub weight : Turn → ℕ
weight (turn.Begin m) = 0
weight (turn.Go m a) = 2

-- what the turns that are left can be at most
abbrev pub turns_left : Turn → List Waiting → List Sign → ℕ
turns_left t ws ts = 3 * length ts + length ws + weight t
