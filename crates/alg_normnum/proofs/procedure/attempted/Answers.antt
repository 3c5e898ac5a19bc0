use Rattle.std.proofs.Common.{sym}
use Rattle.alg_normnum.proofs.Ending.{answer_grows}
use Rattle.alg_normnum.proofs.Numbers.{statement_grows}
use Rattle.alg_normnum.proofs.Relations.{gives_same, leads_same}
use Rattle.alg_normnum.proofs.procedure.attempted.Goals as goal

pub ended-requires : goal.ended-requires
ended-requires g c = (_, c.in_ok-sides.ensures.sides)

pub returns-clause-answer : goal.returns-clause-answer
returns-clause-answer g c = gives_same c.ended.new.cx c.ended.result _ _ (sym (answer_grows _ _ _ _ c.sides_of.ensures.grows c.requires.goal)) (c.ended.ensures.answer _ c.in_ok-sides.ensures.sides)

pub returns-clause-leads : goal.returns-clause-leads
returns-clause-leads g c = leads_same c.ended.new.cx c.ended.result _ _ (sym (statement_grows _ _ _ c.sides_of.ensures.grows c.requires.goal.here)) c.ended.ensures.leads
