use Rattle.std.proofs.Common.{refl}
use Rattle.alg_build.proofs.Lines.{grows-then}
use Rattle.alg_build.proofs.Rewritings.{is-rewriting}
use Rattle.alg_order_exts.proofs.Chains.{chain-follows, chain-turns, found-valued}
use Rattle.alg_order_exts.proofs.operands.found.Goals as goal

pub shown-requires : goal.shown-requires
shown-requires c = record { first = c.requires.has }

pub then-requires : goal.then-requires
then-requires c = chain-follows c.args.cx.now c.shown.new.cx c.args.sort c.args.r c.in_ok-s.s _ _ _ c.in_ok-s.ensures.grows c.requires.turns c.in_ok-s.ensures.turns

pub line_of-requires : goal.line_of-requires
line_of-requires c = is-rewriting _ _ _ _ _ (chain-turns c.args.cx.now c.shown.new.cx c.args.sort c.args.r c.in_ok-s.s _ _ _ c.in_ok-s.ensures.grows c.requires.turns c.in_ok-s.ensures.turns c.then.new.cx c.in_ok-q.q c.in_ok-q.ensures.turns)

pub returns-clause-gives : goal.returns-clause-gives
returns-clause-gives c =
    let g = grows-then _ _ _ c.in_ok-s.ensures.grows (grows-then _ _ _ c.in_ok-q.ensures.grows c.in_ok-line.ensures.grows) in
    let t = chain-turns c.args.cx.now c.shown.new.cx c.args.sort c.args.r c.in_ok-s.s _ _ _ c.in_ok-s.ensures.grows c.requires.turns c.in_ok-s.ensures.turns c.then.new.cx c.in_ok-q.q c.in_ok-q.ensures.turns in
    (refl, refl, found-valued c.args.cx.now c.line_of.new.cx c.args.e c.args.sort c.args.value c.in_ok-line.line g c.requires.here c.requires.turns.left (c.in_ok-line.ensures.proves _ _ _ t))
