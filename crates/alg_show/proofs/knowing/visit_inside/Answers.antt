use Rattle.alg_show.proofs.Visits.{visited_inside}
use Rattle.std.proofs.Common.{sym, ◌∙◌, ap, ◌++◌}
use Rattle.alg_show.specs.Waiting.{waits}
use Rattle.alg_show.proofs.knowing.visit_inside.Goals as goal

pub returns : goal.returns
returns c =
    visited_inside _ _ _ _ _ c.args.notation _ _ c.requires.written (sym c.is_own.ensures ∙ c.if-is_own.false) c.argument-left.ensures.there c.argument-right.ensures.there
    (c.in_ok-wait.ensures ∙ ap (λ b. c.args.waiting.now.items ++ waits b c.argument-left.result) c.holds_first.ensures)
    (c.in_ok-wait-2.ensures ∙ ap (λ b. c.wait.new.waiting.items ++ waits b c.argument-right.result) c.holds_second.ensures)
