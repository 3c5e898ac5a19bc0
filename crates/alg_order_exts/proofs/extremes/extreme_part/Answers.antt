use Rattle.alg_order_exts.proofs.Chains.{chain-follows, chain-turns}
use Rattle.alg_order_exts.proofs.extremes.extreme_part.Goals as goal

pub then-requires : goal.then-requires
then-requires c = chain-follows _ _ _ _ _ _ _ _ c.in_ok-s.ensures.grows c.in_ok-r.ensures.turns c.in_ok-s.ensures.turns

pub returns-clause-turns : goal.returns-clause-turns
returns-clause-turns c = chain-turns _ _ _ _ _ _ _ _ c.in_ok-s.ensures.grows c.in_ok-r.ensures.turns c.in_ok-s.ensures.turns c.then.new.cx c.in_ok-q.q c.in_ok-q.ensures.turns
