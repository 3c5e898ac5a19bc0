use Rattle.std.proofs.Common.{◌∙◌, string_bytes}
use Rattle.alg_run.proofs.Lengthening.{no_lines, line_added}
use Rattle.alg_run.proofs.demonstration.text_of_demonstration.Goals as goal

pub loop-i-init : goal.loop-i-init
loop-i-init c = no_lines (string_bytes c.push_str.new.self) (rw c.new-out.ensures.bytes at c.in_ok-push_str.ensures.bytes)

pub loop-i-preserved : goal.loop-i-preserved
loop-i-preserved c =
    line_added c.loop-i.i (string_bytes c.loop-i.out) (string_bytes c.push_str-in-loop-i.new.self) c.deref.result.now c.loop-i.invariant (c.deref.ensures ∙ c.in_ok-line.ensures) c.in_ok-push_str-2.ensures.bytes
