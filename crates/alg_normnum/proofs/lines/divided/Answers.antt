use Rattle.std.proofs.Common.{◌∙◌}
use Rattle.alg_fraction_numbers.proofs.CommonLemmas.{back}
use Rattle.alg_build.proofs.Lines.{grows-then}
use Rattle.alg_normnum.proofs.Numbers.{goal_concluded, may_divide, numerals_relate}
use Rattle.alg_normnum.proofs.lines.divided.Goals as goal

pub divides-requires : goal.divides-requires
divides-requires c =
    let m = back _ c.num-m.ensures.small in
    let n = back _ c.num-n.ensures.small in
    may_divide _ _ _ _ c.requires.numbers c.requires.rel _ _ (m ∙ c.num-m.ensures.number) (n ∙ c.num-n.ensures.number) (rw m c.num-m.ensures.small) (rw n c.num-n.ensures.small) c.requires.holds

pub close_by-requires : goal.close_by-requires
close_by-requires c =
    let m = back _ c.num-m.ensures.small in
    let n = back _ c.num-n.ensures.small in
    numerals_relate _ _ _ _ c.requires.numbers c.requires.rel _ _ (m ∙ c.num-m.ensures.number) (n ∙ c.num-n.ensures.number) _ _ _ c.in_ok-line.ensures.adds

pub returns-clause-concludes : goal.returns-clause-concludes
returns-clause-concludes c = goal_concluded _ _ _ _ c.requires.numbers _ c.divides.ensures.grows _ _ c.in_ok-whole.ensures.concludes

pub returns-clause-grows : goal.returns-clause-grows
returns-clause-grows c = grows-then _ _ _ c.divides.ensures.grows c.close_by.ensures.grows
