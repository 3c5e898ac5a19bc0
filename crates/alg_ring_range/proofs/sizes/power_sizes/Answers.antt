use Rattle.std.proofs.Common.{◌∙◌, ap, ◌^◌, ◌*◌}
use Rattle.alg_ring_range.specs.Capped.{capped}
use Rattle.alg_ring_range.specs.Sizes.{power_sizes}
use Rattle.alg_ring_range.proofs.Capping.{capped-exponent, capped-factor}
use Rattle.alg_ring_range.proofs.sizes.power_sizes.Goals as goal

pub returns : goal.returns
returns c = λ n e.
    c.within.ensures (power_sizes c.args.x n)
    (c.capped_power.ensures ∙ ap (λ m. capped (c.args.x.denominator ^ m)) e ∙ capped-exponent c.args.x.denominator n)
    (c.capped_power-2.ensures ∙ ap (λ m. capped (c.args.x.weight ^ m)) e ∙ capped-exponent c.args.x.weight n)
    (c.capped_product.ensures ∙ ap (λ m. capped (m * c.args.x.degree)) e ∙ capped-factor n c.args.x.degree)
