use Rattle.alg_group_stack.proofs.JoinLemmas.{last-stands}
use Rattle.alg_group_stack.proofs.stack.whole.Goals as goal

pub returns-in-Some : goal.returns-in-Some
returns-in-Some c = last-stands _ _ _ _ c.requires.word c.in-Some.ensures.value
