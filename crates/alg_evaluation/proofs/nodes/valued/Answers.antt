use Rattle.std.proofs.Common.{◌∙◌}
use Rattle.alg_build.proofs.Lines.{grows-then}
use Rattle.alg_build.proofs.Rewritings.{follows, grows-turns}
use Rattle.alg_evaluation.proofs.Finding.{arithmetic_value, has_numeral, valued_found}
use Rattle.alg_evaluation.proofs.nodes.valued.Goals as goal

pub shown-requires : goal.shown-requires
shown-requires c =
    let n = c.requires.numbered.1 in
    has_numeral c.requires.numbered.0 c.args.cx.now c.args.head c.args.parts.now n.applied c.args.z
    (arithmetic_value c.requires.numbered.0 c.args.cx.now c.args.head c.args.parts.now c.args.ps.now n c.requires.unnamed ∙ c.requires.value)
    c.numeral.new.cx c.numeral.ensures.grows

pub then-requires : goal.then-requires
then-requires c =
    let n = c.requires.numbered.1 in
    follows _ _ _ _ _ _ _ (grows-turns _ _ c.shown.ensures.grows _ _ _ _ (c.in_ok-by.ensures.turns c.requires.numbered.0 n.applied)) c.in_ok-last.ensures.turns

pub returns-clause-found : goal.returns-clause-found
returns-clause-found c covers n =
    let by = grows-turns _ _ c.shown.ensures.grows _ _ _ _ (c.in_ok-by.ensures.turns covers n.applied) in
    valued_found covers c.args.cx.now c.args.head c.args.parts.now n.applied c.args.z
    (arithmetic_value covers c.args.cx.now c.args.head c.args.parts.now c.args.ps.now n c.requires.unnamed ∙ c.requires.value)
    c.then.new.cx (grows-then _ _ _ (grows-then _ _ _ c.numeral.ensures.grows c.shown.ensures.grows) c.then.ensures.grows)
    _ _ _ (grows-turns _ _ c.then.ensures.grows _ _ _ _ by) (c.in_ok-shown.ensures.turns _ _ _ _ by c.in_ok-last.ensures.turns) c.have_past.ensures

pub returns-in_err-last-clause-grows : goal.returns-in_err-last-clause-grows
returns-in_err-last-clause-grows c = grows-then _ _ _ c.numeral.ensures.grows c.shown.ensures.grows

pub returns-in_err-shown-clause-grows : goal.returns-in_err-shown-clause-grows
returns-in_err-shown-clause-grows c = grows-then _ _ _ (grows-then _ _ _ c.numeral.ensures.grows c.shown.ensures.grows) c.then.ensures.grows

pub returns-clause-grows : goal.returns-clause-grows
returns-clause-grows c = grows-then _ _ _ (grows-then _ _ _ c.numeral.ensures.grows c.shown.ensures.grows) c.then.ensures.grows
