use Rattle.alg_build.proofs.Lines.{grows-then}
use Rattle.alg_build.proofs.Rewritings.{stands-over_one, grows-heads}
use Rattle.alg_fractions.proofs.FractionLemmas.{grows-fraction}
use Rattle.alg_order_exts.proofs.Chains.{chain-follows, chain-turns}
use Rattle.alg_order_exts.proofs.Signs.{absolute-fraction}
use Rattle.alg_order_exts.proofs.absolutes.absolute_of_part.Goals as goal

pub under_one-requires : goal.under_one-requires
under_one-requires c = stands-over_one _ _ _ _ _ _ _ c.in_ok-x.ensures.turns (grows-heads _ _ _ _ _ c.in_ok-x.ensures.grows c.requires.heads)

pub absolute_of_numeral-requires-clause-has : goal.absolute_of_numeral-requires-clause-has
absolute_of_numeral-requires-clause-has c = grows-fraction _ _ c.in_ok-r.ensures.grows _ _ c.in_ok-x.ensures.has

pub then-requires : goal.then-requires
then-requires c = chain-follows c.under_one.new.cx c.absolute_of_numeral.new.cx c.args.sort c.in_ok-r.r c.in_ok-s.s _ _ _ c.in_ok-s.ensures.grows (c.in_ok-r.ensures.turns _ _ _ c.in_ok-x.ensures.turns (grows-heads _ _ _ _ _ c.in_ok-x.ensures.grows c.requires.heads)) c.in_ok-s.ensures.turns

pub returns-clause-turns : goal.returns-clause-turns
returns-clause-turns c = chain-turns c.under_one.new.cx c.absolute_of_numeral.new.cx c.args.sort c.in_ok-r.r c.in_ok-s.s _ _ _ c.in_ok-s.ensures.grows (c.in_ok-r.ensures.turns _ _ _ c.in_ok-x.ensures.turns (grows-heads _ _ _ _ _ c.in_ok-x.ensures.grows c.requires.heads)) c.in_ok-s.ensures.turns c.then.new.cx c.in_ok-q.q c.in_ok-q.ensures.turns

pub returns-clause-has : goal.returns-clause-has
returns-clause-has c = absolute-fraction _ _ _ (grows-fraction _ _ (grows-then _ _ _ c.in_ok-r.ensures.grows (grows-then _ _ _ c.in_ok-s.ensures.grows c.in_ok-q.ensures.grows)) _ _ c.in_ok-x.ensures.has)
