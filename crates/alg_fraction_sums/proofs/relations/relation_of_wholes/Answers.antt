use Rattle.std.proofs.Common.{◌∙◌}
use Rattle.alg_fraction_numbers.proofs.CommonLemmas.{back}
use Rattle.alg_fraction_sums.proofs.ComparisonLemmas.{whole-allows, whole-difference_small, whole-related}
use Rattle.alg_fraction_sums.proofs.relations.relation_of_wholes.Goals as goal

pub relation_of_integers-requires-clause-first : goal.relation_of_integers-requires-clause-first
relation_of_integers-requires-clause-first c = rw (back _ c.num-m.ensures.small, c.num-m.ensures.number) c.requires.first.whole

pub relation_of_integers-requires-clause-second : goal.relation_of_integers-requires-clause-second
relation_of_integers-requires-clause-second c = rw (back _ c.num-n.ensures.small, c.num-n.ensures.number) c.requires.second.whole

pub relation_of_integers-requires-clause-first_small : goal.relation_of_integers-requires-clause-first_small
relation_of_integers-requires-clause-first_small c = rw (back _ c.num-m.ensures.small) c.num-m.ensures.small

pub relation_of_integers-requires-clause-second_small : goal.relation_of_integers-requires-clause-second_small
relation_of_integers-requires-clause-second_small c = rw (back _ c.num-n.ensures.small) c.num-n.ensures.small

pub relation_of_integers-requires-clause-holds : goal.relation_of_integers-requires-clause-holds
relation_of_integers-requires-clause-holds c =
    whole-allows c.args.x c.args.y _ _ c.requires.whole.0 c.requires.whole.1
    (back _ c.num-m.ensures.small ∙ c.num-m.ensures.number)
    (back _ c.num-n.ensures.small ∙ c.num-n.ensures.number)
    c.args.rel c.requires.holds

pub relation_of_integers-requires-clause-small : goal.relation_of_integers-requires-clause-small
relation_of_integers-requires-clause-small c =
    whole-difference_small c.args.x c.args.y _ _ c.requires.whole.0 c.requires.whole.1
    (back _ c.num-m.ensures.small ∙ c.num-m.ensures.number)
    (back _ c.num-n.ensures.small ∙ c.num-n.ensures.number)
    c.args.rel c.requires.small

pub returns-clause-concludes : goal.returns-clause-concludes
returns-clause-concludes c =
    whole-related c.args.x c.args.y _ _ c.requires.whole.0 c.requires.whole.1
    (back _ c.num-m.ensures.small ∙ c.num-m.ensures.number)
    (back _ c.num-n.ensures.small ∙ c.num-n.ensures.number)
    _ _ _ _ c.in_ok-line.ensures.concludes
