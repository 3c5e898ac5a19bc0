use Rattle.alg_build.proofs.Lines.{grows-self, grows-then}
use Rattle.alg_build.proofs.Rewritings.{follows, grows-turns, is-proved}
use Rattle.alg_evaluation.proofs.Finding.{has_numeral, valued_found}
use Rattle.alg_evaluation.proofs.Asking.{its_line}
use Rattle.alg_evaluation.proofs.naming.named.Goals as goal

pub by_line-shown-requires : goal.by_line-shown-requires
by_line-shown-requires c = is-proved _ _ _ _ (its_line c.requires.applied.0 c.args.cx.now c.args.head c.args.parts.now c.requires.applied.1 c.args.v c.requires.same c.requires.valued)

pub hidden-requires : goal.hidden-requires
hidden-requires c =
    let h = c.requires.has in
    has_numeral h.0 c.args.cx.now c.args.head c.args.parts.now h.1 c.args.v.value h.2 c.args.cx.now (grows-self c.args.cx.now)

pub then-requires : goal.then-requires
then-requires c =
    let shown = c.by_line-shown.ensures _ _ (its_line c.requires.applied.0 c.args.cx.now c.args.head c.args.parts.now c.requires.applied.1 c.args.v c.requires.same c.requires.valued) in
    follows _ _ _ _ _ _ _ (grows-turns _ _ c.hidden.ensures.grows _ _ _ _ shown) c.in_ok-last.ensures.turns

pub returns-clause-found : goal.returns-clause-found
returns-clause-found c covers a e =
    let first = grows-turns _ _ c.hidden.ensures.grows _ _ _ _ (c.by_line-shown.ensures _ _ (its_line covers c.args.cx.now c.args.head c.args.parts.now a c.args.v c.requires.same c.requires.valued)) in
    valued_found covers c.args.cx.now c.args.head c.args.parts.now a c.args.v.value e
    c.then.new.cx (grows-then _ _ _ c.hidden.ensures.grows c.then.ensures.grows)
    _ _ _ (c.in_ok-by.ensures.turns _ _ _ _ first c.in_ok-last.ensures.turns) (grows-turns _ _ c.then.ensures.grows _ _ _ _ first) c.have_past.ensures

pub returns-in_err-by-clause-grows : goal.returns-in_err-by-clause-grows
returns-in_err-by-clause-grows c = grows-then _ _ _ c.hidden.ensures.grows c.then.ensures.grows

pub returns-clause-grows : goal.returns-clause-grows
returns-clause-grows c = grows-then _ _ _ c.hidden.ensures.grows c.then.ensures.grows
