use Rattle.std.specs.Int.{w128}
use Rattle.std.proofs.lemmas.Int.{to_z-of_z}
use Rattle.alg_ring_range.proofs.RowLemmas.{negation_found}
use Rattle.alg_ring_range.proofs.rows.negation.Goals as goal

pub returns-in-Some : goal.returns-in-Some
returns-in-Some c =
    rw (to_z-of_z w128 c.negated.result (record { sfits = c.negated.type_inv }))
    (λ x h. negation_found c.args.a.now x h c.in-Some.p c.kept.result c.negated.result c.in-Some.is c.kept.ensures c.negated.ensures)
