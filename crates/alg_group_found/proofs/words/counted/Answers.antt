use Rattle.std.proofs.Common.{sym, ◌∙◌}
use Rattle.alg_group_found.proofs.ReachLemmas.{counted-large, counted-within}
use Rattle.alg_group_found.proofs.words.counted.Goals as goal

pub returns-then-is_over : goal.returns-then-is_over
returns-then-is_over c = λ b h ds t k. counted-large _ _ _ _ _ _ _ k (rw c.length_of.ensures at (sym c.is_over.ensures ∙ c.if-is_over.true))

pub returns : goal.returns
returns c = λ b h ds t k. rw c.length_of.ensures (counted-within _ _ _ _ _ _ _ k (rw c.length_of.ensures at (sym c.is_over.ensures ∙ c.if-is_over.false)))
