use Rattle.std.proofs.Common.{◌∙◌}
use Rattle.alg_fraction_numbers.proofs.CommonLemmas.{back}
use Rattle.alg_fraction_sums.proofs.WholeLemmas.{whole-sum_small, whole-sum_turns}
use Rattle.alg_fraction_sums.proofs.sums.sum_of_wholes.Goals as goal

pub sum_of_integers-requires-clause-first : goal.sum_of_integers-requires-clause-first
sum_of_integers-requires-clause-first c = rw (back _ c.num-m.ensures.small, c.num-m.ensures.number) c.requires.first.whole

pub sum_of_integers-requires-clause-second : goal.sum_of_integers-requires-clause-second
sum_of_integers-requires-clause-second c = rw (back _ c.num-n.ensures.small, c.num-n.ensures.number) c.requires.second.whole

pub sum_of_integers-requires-clause-first_small : goal.sum_of_integers-requires-clause-first_small
sum_of_integers-requires-clause-first_small c = rw (back _ c.num-m.ensures.small) c.num-m.ensures.small

pub sum_of_integers-requires-clause-second_small : goal.sum_of_integers-requires-clause-second_small
sum_of_integers-requires-clause-second_small c = rw (back _ c.num-n.ensures.small) c.num-n.ensures.small

pub sum_of_integers-requires-clause-small : goal.sum_of_integers-requires-clause-small
sum_of_integers-requires-clause-small c =
    whole-sum_small c.args.x c.args.y c.args.z _ _ c.requires.whole.0 c.requires.whole.1
    (back _ c.num-m.ensures.small ∙ c.num-m.ensures.number)
    (back _ c.num-n.ensures.small ∙ c.num-n.ensures.number)
    c.requires.small

pub returns-clause-turns : goal.returns-clause-turns
returns-clause-turns c =
    whole-sum_turns c.args.x c.args.y c.args.z _ _ c.requires.whole.0 c.requires.whole.1
    (back _ c.num-m.ensures.small ∙ c.num-m.ensures.number)
    (back _ c.num-n.ensures.small ∙ c.num-n.ensures.number)
    _ _ _ c.requires.adds c.in_ok-r.ensures.turns
