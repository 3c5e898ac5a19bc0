use Rattle.alg_build.proofs.Lines.{grows-then}
use Rattle.alg_build.proofs.Rewritings.{is-proved}
use Rattle.alg_fractions.proofs.FractionLemmas.{grows-fraction}
use Rattle.alg_order_exts.proofs.Chains.{chain-follows, chain-turns, part-proves, part-turns}
use Rattle.alg_order_exts.proofs.operands.operand.Goals as goal

pub by_line-r-requires : goal.by_line-r-requires
by_line-r-requires c = is-proved _ _ _ _ (part-proves c.args.cx.now c.args.sort c.args.v.now c.requires.valued c.requires.sort)

pub hidden-requires : goal.hidden-requires
hidden-requires c = record { first = c.has_numeral.ensures }

pub then-requires : goal.then-requires
then-requires c = chain-follows c.args.cx.now c.hidden.new.cx c.args.sort c.by_line-r.result c.in_ok-s.s _ _ _ c.in_ok-s.ensures.grows (part-turns c.args.cx.now c.args.sort c.args.v.now c.requires.valued c.requires.sort c.by_line-r.result c.by_line-r.ensures) c.in_ok-s.ensures.turns

pub returns-clause-turns : goal.returns-clause-turns
returns-clause-turns c = chain-turns c.args.cx.now c.hidden.new.cx c.args.sort c.by_line-r.result c.in_ok-s.s _ _ _ c.in_ok-s.ensures.grows (part-turns c.args.cx.now c.args.sort c.args.v.now c.requires.valued c.requires.sort c.by_line-r.result c.by_line-r.ensures) c.in_ok-s.ensures.turns c.then.new.cx c.in_ok-q.q c.in_ok-q.ensures.turns

pub returns-clause-has : goal.returns-clause-has
returns-clause-has c = grows-fraction c.args.cx.now c.then.new.cx (grows-then _ _ _ c.in_ok-s.ensures.grows c.in_ok-q.ensures.grows) _ _ c.has_numeral.ensures
