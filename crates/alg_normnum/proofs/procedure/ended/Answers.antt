use Rattle.std.proofs.Common.{sym, ◌∙◌}
use Rattle.alg_normnum.proofs.Ending.{are_numbers, number_answer, other_answer, past_answer}
use Rattle.alg_normnum.proofs.Relations.{gives_same}
use Rattle.alg_normnum.proofs.procedure.ended.Goals as goal

pub returns-then-have_past-clause-answer : goal.returns-then-have_past-clause-answer
returns-then-have_past-clause-answer c = λ covers h. past_answer covers _ _ _ _ h (sym c.have_past.ensures ∙ c.if-have_past.true)

pub by_values-requires : goal.by_values-requires
by_values-requires c =
    let both = c.are_numbers.ensures.yes c.if-are_numbers.true in
    are_numbers c.requires.0 _ _ _ _ c.requires.1 both.0 both.1

pub returns-then-are_numbers-clause-answer : goal.returns-then-are_numbers-clause-answer
returns-then-are_numbers-clause-answer c = λ covers h.
    let both = c.are_numbers.ensures.yes c.if-are_numbers.true in
    gives_same c.by_values.new.cx c.by_values.result _ _ (number_answer covers _ _ _ _ h (sym c.have_past.ensures ∙ c.if-have_past.false) both.0 both.1) c.by_values.ensures.answer

pub returns-clause-answer : goal.returns-clause-answer
returns-clause-answer c = λ covers h.
    gives_same c.end_with.new.cx c.end_with.result _ _ (other_answer covers _ _ _ _ h (sym c.have_past.ensures ∙ c.if-have_past.false) (c.are_numbers.ensures.no c.if-are_numbers.false)) c.end_with.ensures.answer
