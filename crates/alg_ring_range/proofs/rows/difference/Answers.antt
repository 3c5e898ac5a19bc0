use Rattle.std.proofs.Common.{refl, None}
use Rattle.std.specs.Int.{w128}
use Rattle.std.proofs.lemmas.Int.{to_z-of_z}
use Rattle.alg_ring_range.specs.Fractions.{negated_fraction}
use Rattle.alg_ring_range.proofs.RowLemmas.{small, cast_small, negated_top_of, closed-negated}
use Rattle.alg_ring_range.proofs.rows.difference.Goals as goal

pub returns : goal.returns
returns c = λ x y h i.
    c.added.ensures x y None (negated_fraction y.fraction) h i refl tt (closed-negated y.fraction)
    (λ o.
    rw (to_z-of_z w128 c.negated.result (record { sfits = c.negated.type_inv }))
    (negated_top_of y.fraction c.args.b.now.top _ c.negated.result y.sizes (i.top o) (small c.args.b.now y i o) (cast_small c.args.b.now.top y.sizes (small c.args.b.now y i o)) c.negated.ensures))
