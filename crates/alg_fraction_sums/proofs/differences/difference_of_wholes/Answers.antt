use Rattle.std.proofs.Common.{◌∙◌}
use Rattle.alg_fraction_numbers.proofs.CommonLemmas.{back}
use Rattle.alg_fraction_sums.proofs.WholeLemmas.{whole-difference_small, whole-difference_turns}
use Rattle.alg_fraction_sums.proofs.differences.difference_of_wholes.Goals as goal

pub difference_of_integers-requires-clause-first_small : goal.difference_of_integers-requires-clause-first_small
difference_of_integers-requires-clause-first_small c = rw (back _ c.num-m.ensures.small) c.num-m.ensures.small

pub difference_of_integers-requires-clause-second_small : goal.difference_of_integers-requires-clause-second_small
difference_of_integers-requires-clause-second_small c = rw (back _ c.num-n.ensures.small) c.num-n.ensures.small

pub difference_of_integers-requires-clause-small : goal.difference_of_integers-requires-clause-small
difference_of_integers-requires-clause-small c =
    whole-difference_small c.args.x c.args.y c.args.z _ _ c.requires.whole.0 c.requires.whole.1
    (back _ c.num-m.ensures.small ∙ c.num-m.ensures.number)
    (back _ c.num-n.ensures.small ∙ c.num-n.ensures.number)
    c.requires.small

pub returns-clause-turns : goal.returns-clause-turns
returns-clause-turns c =
    whole-difference_turns c.args.x c.args.y c.args.z _ _ c.requires.whole.0 c.requires.whole.1
    (back _ c.num-m.ensures.small ∙ c.num-m.ensures.number)
    (back _ c.num-n.ensures.small ∙ c.num-n.ensures.number)
    _ _ _ c.requires.subtracts c.in_ok-r.ensures.turns
