use Rattle.alg_evaluation.proofs.Finding.{unvalued_found}
use Rattle.alg_evaluation.proofs.nodes.unvalued.Goals as goal

pub returns-clause-found : goal.returns-clause-found
returns-clause-found c covers a e =
    rw c.whole.ensures (unvalued_found covers c.args.cx.now c.args.head c.args.parts.now a c.args.kind _ c.requires.valueless e c.with_shown_parts.new.cx c.with_shown_parts.ensures.grows _ _
    (c.in_ok-shown.ensures.turns covers a) c.is_past_within.ensures)
