use Rattle.std.proofs.Common.{◌≡◌, ◌∙◌}
use Rattle.std.specs.Int.{int_pow, w128}
use Rattle.std.proofs.lemmas.Int.{to_z-of_z, fits_signed_from_abs}
use Rattle.alg_num.specs.Range.{InRange}
use Rattle.alg_powers.proofs.PowerLemmas.{made-power, next-power}
use Rattle.alg_powers.proofs.powers.next.Goals as goal

pub product-value-requires : goal.product-value-requires
product-value-requires c = rw (c.requires.lesser.value, next-power c.args.x.now c.args.m c.args.n c.requires.sums) c.requires.small

pub next_to-requires-clause-product : goal.next_to-requires-clause-product
next_to-requires-clause-product c =
    let v : c.product-value.result ≡ int_pow c.args.x.now c.args.n = rw (c.product-value.ensures, c.requires.lesser.value) (next-power c.args.x.now c.args.m c.args.n c.requires.sums) in
    let small : InRange c.product-value.result = rw v c.requires.small in
    rw (to_z-of_z w128 _ (fits_signed_from_abs w128 _ small)) v

pub returns-clause-power : goal.returns-clause-power
returns-clause-power c =
    let v : c.product-value.result ≡ int_pow c.args.x.now c.args.n = rw (c.product-value.ensures, c.requires.lesser.value) (next-power c.args.x.now c.args.m c.args.n c.requires.sums) in
    let small : InRange c.product-value.result = rw v c.requires.small in
    let back = to_z-of_z w128 c.product-value.result (fits_signed_from_abs w128 c.product-value.result small) in
    rw back (made-power _ _ _ _ _ _ v (rw back at c.in_ok-by.ensures.turns))
