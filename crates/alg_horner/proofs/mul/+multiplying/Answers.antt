use Rattle.std.proofs.Common.{rules, arith, ◌+◌, ◌*◌, ◌<◌, ◌≤◌, ◌^◌, ◌≡◌, ap}
use Rattle.alg_horner.specs.Form.{nodes, atoms, skip}
use Rattle.alg_sums.specs.Rational.{rational}
use Rattle.alg_horner.specs.Multiplying.{CanConvolve, HasSmallProduct}
use Rattle.alg_horner.proofs.Exponents.{small_inner, small_rest, small_first, small_comm, small_constant, small_skips, small_later, join_product, join_later}
use Rattle.alg_horner.proofs.Multiplying.{product_constant, product_sum, product_constant_under, product_later, product_skips, product_comm, can_constant, can_inner, can_rest, can_sum, can_comm, later_can, skips_can}
use Rattle.alg_horner.proofs.mul.+multiplying.Goals as goal

pub times-scaled-requires : goal.times-scaled-requires
times-scaled-requires g t c = can_constant rational c.args.f _ (rw c.in-Constant.ensures at c.requires.can)

pub times-returns-in_ok-form-in-Constant : goal.times-returns-in_ok-form-in-Constant
times-returns-in_ok-form-in-Constant g t c = rw c.in-Constant.ensures (product_constant rational c.args.f _ c.in_ok-form-in-Constant.form c.in_ok-form-in-Constant.ensures)

pub times-times-requires : goal.times-times-requires
times-times-requires g t c =
    let h = can_inner rational c.args.f c.in-Sum.inner c.in-Sum.power c.in-Sum.rest (rw c.in-Sum.ensures at c.requires.can) in
    let d = small_inner rational c.args.f c.in-Sum.inner c.in-Sum.power c.in-Sum.rest (rw c.in-Sum.ensures at c.requires.degree) in
    let m : nodes c.args.g ≡ nodes c.in-Sum.inner + nodes c.in-Sum.rest + 1 = ap nodes c.in-Sum.ensures in
    let n : 3 * (nodes c.args.f + nodes c.in-Sum.inner) + 2 < 3 * (nodes c.args.f + nodes c.args.g) + 2 = omega (arith, m) in
    search (rules, h, d, n)

pub times-times_later-requires-in-Sum : goal.times-times_later-requires-in-Sum
times-times_later-requires-in-Sum g t c =
    let o : c.in_ok-other-in-Sum.other ≡ c.args.f = c.in_ok-other-in-Sum.ensures in
    let k = can_rest rational c.args.f c.in-Sum.inner c.in-Sum.power c.in-Sum.rest (rw c.in-Sum.ensures at c.requires.can) in
    let h : CanConvolve rational c.in_ok-other-in-Sum.other (skip 1 c.in-Sum.rest) = rw o k in
    let e = small_rest rational c.args.f c.in-Sum.inner c.in-Sum.power c.in-Sum.rest (rw c.in-Sum.ensures at c.requires.degree) in
    let x = rw c.in-Sum.ensures at c.told.ensures.atoms in
    let d : HasSmallProduct c.in_ok-other-in-Sum.other (skip 1 c.in-Sum.rest) = rw o e in
    let y : 1 + atoms c.in-Sum.rest ≤ 2 ^ 32 = omega (arith, x) in
    let m : nodes c.args.g ≡ nodes c.in-Sum.inner + nodes c.in-Sum.rest + 1 = ap nodes c.in-Sum.ensures in
    let p : nodes c.in_ok-other-in-Sum.other ≡ nodes c.args.f = ap nodes o in
    let n : 3 * (nodes c.in_ok-other-in-Sum.other + nodes c.in-Sum.rest + 1) + 1 < 3 * (nodes c.args.f + nodes c.args.g) + 2 = omega (arith, m, p) in
    search (rules, h, d, y, n)

pub times-plus-requires : goal.times-plus-requires
times-plus-requires g t c =
    can_sum rational c.args.f c.in-Sum.inner c.in-Sum.power c.in-Sum.rest c.in_ok-product-in-Sum.product c.in_ok-first-in-Sum.first c.in_ok-second-in-Sum.second
    (rw c.in-Sum.ensures at c.requires.can)
    c.in_ok-product-in-Sum.ensures
    (let n = rw (c.in_ok-none-in-Sum.ensures, c.zero.ensures) at c.in_ok-first-in-Sum.ensures in n)
    (rw c.in_ok-other-in-Sum.ensures at c.in_ok-second-in-Sum.ensures)

pub times-returns-in_ok-form-in-Sum : goal.times-returns-in_ok-form-in-Sum
times-returns-in_ok-form-in-Sum g t c =
    let s = rw c.in-Sum.ensures at c.told.ensures.form in
    rw c.in-Sum.ensures
    (product_sum rational c.args.f c.in-Sum.inner c.in-Sum.power c.in-Sum.rest c.in_ok-product-in-Sum.product c.in_ok-first-in-Sum.first c.in_ok-second-in-Sum.second c.in_ok-form-in-Sum.form
    s.0
    c.in_ok-product-in-Sum.ensures
    (let n = rw (c.in_ok-none-in-Sum.ensures, c.zero.ensures) at c.in_ok-first-in-Sum.ensures in n)
    (rw c.in_ok-other-in-Sum.ensures at c.in_ok-second-in-Sum.ensures)
    c.in_ok-form-in-Sum.ensures)

pub times_later-times-requires-in-Sum : goal.times_later-times-requires-in-Sum
times_later-times-requires-in-Sum g t c =
    let o = rw c.in_ok-other-in-Sum.ensures at c.in_ok-other-in-Sum-2.ensures in
    let u = rw c.in-Sum.ensures at c.requires.can in
    let h = later_can rational c.in-Sum.inner c.in-Sum.power c.in-Sum.rest c.args.by c.args.later c.in_ok-other-in-Sum-2.other o u in
    let d = small_later rational c.in-Sum.inner c.in-Sum.power c.in-Sum.rest c.args.by c.args.later c.in_ok-other-in-Sum-2.other c.requires.by o (rw c.in-Sum.ensures at c.requires.degree) in
    let m : nodes c.args.f ≡ nodes c.in-Sum.inner + nodes c.in-Sum.rest + 1 = ap nodes c.in-Sum.ensures in
    let y : nodes c.in_ok-other-in-Sum-2.other ≤ nodes c.args.later + 1 = o.nodes in
    let n : 3 * (nodes c.in-Sum.rest + nodes c.in_ok-other-in-Sum-2.other) + 2 < 3 * (nodes c.args.f + nodes c.args.later + 1) + 1 = omega (arith, m, y) in
    search (rules, h, d, n)

pub times_later-returns-in_ok-form-in-Constant : goal.times_later-returns-in_ok-form-in-Constant
times_later-returns-in_ok-form-in-Constant g t c =
    rw c.in-Constant.ensures
    (product_constant_under rational _ c.args.by c.args.later c.in_ok-product-in-Constant.product c.in_ok-form-in-Constant.form
    (rw c.in_ok-constant-in-Constant.ensures at c.in_ok-product-in-Constant.ensures)
    c.in_ok-form-in-Constant.ensures)

pub times_later-returns-in_ok-form-in-Sum : goal.times_later-returns-in_ok-form-in-Sum
times_later-returns-in_ok-form-in-Sum g t c =
    let s = rw c.in-Sum.ensures at c.told.ensures.form in
    rw c.in-Sum.ensures
    (product_later rational c.in-Sum.inner c.in-Sum.power c.in-Sum.rest c.args.by c.args.later c.in_ok-other-in-Sum-2.other c.in_ok-inner-in-Sum.inner c.in_ok-rest-in-Sum.rest c.in_ok-form-in-Sum.form
    s.0
    c.requires.by
    (rw c.in_ok-other-in-Sum.ensures at c.in_ok-other-in-Sum-2.ensures)
    c.in_ok-inner-in-Sum.ensures
    c.in_ok-rest-in-Sum.ensures
    c.in_ok-form-in-Sum.ensures)

pub times_skips-times-requires : goal.times_skips-times-requires
times_skips-times-requires g t c =
    let o = c.in_ok-g.ensures in
    let h = skips_can rational c.args.first c.args.second c.args.f c.args.g c.in_ok-g.g o c.requires.can in
    let d = small_skips rational c.args.first c.args.second c.args.f c.args.g c.in_ok-g.g c.if-first-second.true o c.requires.degree in
    let y : nodes c.in_ok-g.g ≤ nodes c.args.g + 1 = o.nodes in
    let n : 3 * (nodes c.args.f + nodes c.in_ok-g.g) + 2 < 3 * (nodes c.args.f + 1 + nodes c.args.g + 1) = omega (arith, y) in
    search (rules, h, d, n)

pub times_skips-returns-then-first-second : goal.times_skips-returns-then-first-second
times_skips-returns-then-first-second g t c =
    product_skips rational c.args.first c.args.second c.args.f c.args.g c.in_ok-g.g c.in_ok-product.product c.in_ok-form.form
    c.if-first-second.true c.in_ok-g.ensures c.in_ok-product.ensures c.in_ok-form.ensures

pub times_skips-times-requires-2 : goal.times_skips-times-requires-2
times_skips-times-requires-2 g t c =
    let o = c.in_ok-f.ensures in
    let h = skips_can rational c.args.second c.args.first c.args.g c.args.f c.in_ok-f.f o (can_comm rational (skip c.args.first c.args.f) (skip c.args.second c.args.g) c.requires.can) in
    let l : c.args.second ≤ c.args.first = omega (arith, c.if-first-second.false) in
    let d = small_skips rational c.args.second c.args.first c.args.g c.args.f c.in_ok-f.f l o (small_comm rational (skip c.args.first c.args.f) (skip c.args.second c.args.g) c.requires.degree) in
    let y : nodes c.in_ok-f.f ≤ nodes c.args.f + 1 = o.nodes in
    let n : 3 * (nodes c.args.g + nodes c.in_ok-f.f) + 2 < 3 * (nodes c.args.f + 1 + nodes c.args.g + 1) = omega (arith, y) in
    search (rules, h, d, n)

pub times_skips-returns : goal.times_skips-returns
times_skips-returns g t c =
    let l : c.args.second ≤ c.args.first = omega (arith, c.if-first-second.false) in
    product_comm rational (skip c.args.second c.args.g) (skip c.args.first c.args.f) c.in_ok-form-2.form
    (product_skips rational c.args.second c.args.first c.args.g c.args.f c.in_ok-f.f c.in_ok-product-2.product c.in_ok-form-2.form
    l c.in_ok-f.ensures c.in_ok-product-2.ensures c.in_ok-form-2.ensures)

pub times-join-requires-clause-exponent : goal.times-join-requires-clause-exponent
times-join-requires-clause-exponent g t c = join_product rational c.args.f c.in-Sum.inner c.in-Sum.power c.in-Sum.rest c.in_ok-product-in-Sum.product c.in_ok-product-in-Sum.ensures (rw c.in-Sum.ensures at c.requires.degree)

pub times_later-times-requires : goal.times_later-times-requires
times_later-times-requires g t c =
    let e = small_constant rational _ c.args.by c.args.later (rw c.in-Constant.ensures at c.requires.degree) in
    let d : HasSmallProduct c.in_ok-constant-in-Constant.constant c.args.later = rw c.in_ok-constant-in-Constant.ensures e in
    search (rules, d)

pub times_later-times_later-requires : goal.times_later-times_later-requires
times_later-times_later-requires g t c =
    let d = small_first rational c.in-Sum.inner c.in-Sum.power c.in-Sum.rest (skip c.args.by c.args.later) (rw c.in-Sum.ensures at c.requires.degree) in
    search (rules, d)

pub times_later-join-requires-clause-exponent : goal.times_later-join-requires-clause-exponent
times_later-join-requires-clause-exponent g t c = join_later rational c.in-Sum.inner c.in-Sum.power c.in-Sum.rest (skip c.args.by c.args.later) c.in_ok-inner-in-Sum.inner c.in_ok-inner-in-Sum.ensures (rw c.in-Sum.ensures at c.requires.degree)
