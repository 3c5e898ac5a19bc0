use Rattle.alg_horner.proofs.Exponents.{join_beside, join_nodes}
use Rattle.std.proofs.Common.{rules, ◌+◌, ◌<◌}
use Rattle.alg_horner.specs.Form.{nodes}
use Rattle.alg_sums.specs.Rational.{rational}
use Rattle.alg_horner.proofs.Adding.{under_can, beside_can, inner_can, rest_can, sum_constants, sum_under, sum_beside, sum_nodes}
use Rattle.alg_horner.proofs.add.+plus.Goals as goal

pub plus-requires : goal.plus-requires
plus-requires g t c =
    let a = rw c.in-Under.is at c.in_ok-aligned.ensures in
    let h = under_can rational c.args.f c.args.g c.in-Under.by c.in-Under.first c.in-Under.second a c.requires in
    let n : nodes c.in-Under.first + nodes c.in-Under.second < nodes c.args.f + nodes c.args.g = a.nodes in
    search (rules, h, n)

pub plus-requires-in-Beside : goal.plus-requires-in-Beside
plus-requires-in-Beside g t c =
    let a = rw c.in-Beside.is at c.in_ok-aligned.ensures in
    let h = beside_can rational c.args.f c.args.g c.in-Beside.inner c.in-Beside.power c.in-Beside.rest c.in-Beside.tail a c.requires in
    let n : nodes c.in-Beside.rest + nodes c.in-Beside.tail < nodes c.args.f + nodes c.args.g = a.nodes in
    search (rules, h, n)

pub plus-requires-in-Nodes : goal.plus-requires-in-Nodes
plus-requires-in-Nodes g t c =
    let a = rw c.in-Nodes.is at c.in_ok-aligned.ensures in
    let h = inner_can rational c.args.f c.args.g c.in-Nodes.first c.in-Nodes.second c.in-Nodes.power c.in-Nodes.rest c.in-Nodes.tail a c.requires in
    let n : nodes c.in-Nodes.first + nodes c.in-Nodes.second < nodes c.args.f + nodes c.args.g = a.inner in
    search (rules, h, n)

pub plus-requires-in-Nodes-2 : goal.plus-requires-in-Nodes-2
plus-requires-in-Nodes-2 g t c =
    let a = rw c.in-Nodes.is at c.in_ok-aligned.ensures in
    let h = rest_can rational c.args.f c.args.g c.in-Nodes.first c.in-Nodes.second c.in-Nodes.power c.in-Nodes.rest c.in-Nodes.tail a c.requires in
    let n : nodes c.in-Nodes.rest + nodes c.in-Nodes.tail < nodes c.args.f + nodes c.args.g = a.rest in
    search (rules, h, n)

pub returns-in_ok-form-in-Constants : goal.returns-in_ok-form-in-Constants
returns-in_ok-form-in-Constants g t c =
    let a = rw c.in-Constants.is at c.in_ok-aligned.ensures in
    rw (c.in_ok-form-in-Constants.ensures, c.add.ensures) (sum_constants rational c.args.f c.args.g _ _ a)

pub returns-in_ok-form-in-Under : goal.returns-in_ok-form-in-Under
returns-in_ok-form-in-Under g t c =
    let a = rw c.in-Under.is at c.in_ok-aligned.ensures in
    sum_under rational c.args.f c.args.g c.in-Under.by c.in-Under.first c.in-Under.second c.in_ok-sum-in-Under.sum c.in_ok-form-in-Under.form a c.in_ok-sum-in-Under.ensures c.in_ok-form-in-Under.ensures

pub returns-in_ok-form-in-Beside : goal.returns-in_ok-form-in-Beside
returns-in_ok-form-in-Beside g t c =
    let a = rw c.in-Beside.is at c.in_ok-aligned.ensures in
    sum_beside rational c.args.f c.args.g c.in-Beside.inner c.in-Beside.power c.in-Beside.rest c.in-Beside.tail c.in_ok-rest-in-Beside.rest c.in_ok-form-in-Beside.form a c.in_ok-rest-in-Beside.ensures c.in_ok-form-in-Beside.ensures

pub returns-in_ok-form-in-Nodes : goal.returns-in_ok-form-in-Nodes
returns-in_ok-form-in-Nodes g t c =
    let a = rw c.in-Nodes.is at c.in_ok-aligned.ensures in
    sum_nodes rational c.args.f c.args.g c.in-Nodes.first c.in-Nodes.second c.in-Nodes.power c.in-Nodes.rest c.in-Nodes.tail c.in_ok-inner-in-Nodes.inner c.in_ok-rest-in-Nodes.rest c.in_ok-form-in-Nodes.form a c.in_ok-inner-in-Nodes.ensures c.in_ok-rest-in-Nodes.ensures c.in_ok-form-in-Nodes.ensures

pub join-requires-clause-exponent : goal.join-requires-clause-exponent
join-requires-clause-exponent g t c =
    let a = rw c.in-Beside.is at c.in_ok-aligned.ensures in
    join_beside rational c.args.f c.args.g c.in-Beside.inner c.in-Beside.power c.in-Beside.rest c.in-Beside.tail a c.told.ensures c.told-2.ensures

pub join-requires-in-Nodes-clause-exponent : goal.join-requires-in-Nodes-clause-exponent
join-requires-in-Nodes-clause-exponent g t c =
    let a = rw c.in-Nodes.is at c.in_ok-aligned.ensures in
    join_nodes rational c.args.f c.args.g c.in-Nodes.first c.in-Nodes.second c.in-Nodes.power c.in-Nodes.rest c.in-Nodes.tail c.in_ok-inner-in-Nodes.inner a c.in_ok-inner-in-Nodes.ensures c.told.ensures c.told-2.ensures
