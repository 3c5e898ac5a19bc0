use Rattle.std.proofs.Common.{◌∙◌, sym}
use Rattle.alg_evaluation.proofs.Finding.{arithmetic_value}
use Rattle.alg_evaluation.proofs.nodes.operation.Goals as goal

pub valued-requires-clause-value : goal.valued-requires-clause-value
valued-requires-clause-value c = rw (← c.base.ensures) (sym c.in-Num.ensures)

pub unvalued-requires-clause-applied : goal.unvalued-requires-clause-applied
unvalued-requires-clause-applied c = (c.requires.numbered.0, c.requires.numbered.1.applied)

pub unvalued-requires-in-Without-clause-applied : goal.unvalued-requires-in-Without-clause-applied
unvalued-requires-in-Without-clause-applied c = (c.requires.numbered.0, c.requires.numbered.1.applied)

pub returns-in_ok-f-in-Past-clause-found : goal.returns-in_ok-f-in-Past-clause-found
returns-in_ok-f-in-Past-clause-found c covers n =
    c.in_ok-f-in-Past.ensures.found covers n.applied (rw c.base.ensures at c.in-Past.ensures ∙ sym (arithmetic_value covers c.args.cx.now c.args.head c.args.parts.now c.args.ps.now n c.requires.unnamed))

pub returns-in_ok-f-in-Without-clause-found : goal.returns-in_ok-f-in-Without-clause-found
returns-in_ok-f-in-Without-clause-found c covers n =
    c.in_ok-f-in-Without.ensures.found covers n.applied (rw c.base.ensures at c.in-Without.ensures ∙ sym (arithmetic_value covers c.args.cx.now c.args.head c.args.parts.now c.args.ps.now n c.requires.unnamed))
