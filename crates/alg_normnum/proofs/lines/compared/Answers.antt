use Rattle.alg_normnum.proofs.Numbers.{fractions_relate, goal_concluded, left_has, right_has}
use Rattle.alg_normnum.proofs.lines.compared.Goals as goal

pub relation_of_fractions-requires-clause-first : goal.relation_of_fractions-requires-clause-first
relation_of_fractions-requires-clause-first c = left_has _ _ _ _ c.requires.numbers

pub relation_of_fractions-requires-clause-second : goal.relation_of_fractions-requires-clause-second
relation_of_fractions-requires-clause-second c = right_has _ _ _ _ c.requires.numbers

pub close_by-requires : goal.close_by-requires
close_by-requires c = fractions_relate _ _ _ _ c.requires.numbers _ c.relation_of_fractions.ensures.grows _ c.in_ok-line.ensures.concludes

pub returns-clause-concludes : goal.returns-clause-concludes
returns-clause-concludes c = goal_concluded _ _ _ _ c.requires.numbers _ c.relation_of_fractions.ensures.grows _ _ c.in_ok-whole.ensures.concludes
