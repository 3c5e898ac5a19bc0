use Rattle.std.proofs.Common.{[], ◌∷◌}
use Rattle.alg_value_laws.specs.Places.{sorts_over}
use Rattle.alg_arithmetic.proofs.Lists.{one_item, two_items}
use Rattle.alg_arithmetic.proofs.Trees.{operation_answers}
use Rattle.alg_arithmetic.proofs.evaluating.evaluated.Goals as goal

pub returns-in-len1-clause-turns : goal.returns-in-len1-clause-turns
returns-in-len1-clause-turns c =
    operation_answers _ c.over_one.new.cx c.args.sort c.args.sym (sorts_over c.args.sym c.args.sort) c.args.ps.now (c.p-item.result ∷ []) c.args.z.now c.over_one.result
    (one_item c.args.ps.now c.p-item.result c.in-len1.len_at_least c.in-len1.len_below c.p-item.is) c.over_one.ensures.turns

pub returns-in-len2-clause-turns : goal.returns-in-len2-clause-turns
returns-in-len2-clause-turns c =
    operation_answers _ c.over_two.new.cx c.args.sort c.args.sym (sorts_over c.args.sym c.args.sort) c.args.ps.now (c.p-item-then-ps-lt3.result ∷ c.q-item.result ∷ []) c.args.z.now c.over_two.result
    (two_items c.args.ps.now c.p-item-then-ps-lt3.result c.q-item.result c.in-len2.len_at_least c.in-len2.len_below c.p-item-then-ps-lt3.is c.q-item.is) c.over_two.ensures.turns
