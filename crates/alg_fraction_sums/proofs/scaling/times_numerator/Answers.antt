use Rattle.std.proofs.Common.{◌∙◌}
use Rattle.std.specs.Int.{w128}
use Rattle.std.proofs.lemmas.Int.{to_z_pos}
use Rattle.alg_fraction_numbers.proofs.CommonLemmas.{back}
use Rattle.alg_fraction_sums.proofs.WholeLemmas.{literal-tree}
use Rattle.alg_fraction_sums.proofs.scaling.times_numerator.Goals as goal

pub returns-clause-turns : goal.returns-clause-turns
returns-clause-turns c =
    let e = back _ c.num-m.ensures.small ∙ c.num-m.ensures.number in
    let k = to_z_pos w128 c.args.n c.requires.factor in
    rw (literal-tree c.args.sort c.args.n, ← e, ← k) c.product_of_integers.ensures.turns
