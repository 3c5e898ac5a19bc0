use Rattle.std.proofs.Common.{sym, ◌∙◌}
use Rattle.alg_group_stack.proofs.BitLemmas.{some-is, zero-is}
use Rattle.alg_group_spelling.proofs.raising.raise.Goals as goal

pub raise_to_one-requires-clause-zero : goal.raise_to_one-requires-clause-zero
raise_to_one-requires-clause-zero c = zero-is c.args.z.now (sym c.is_nothing.ensures ∙ c.if-is_nothing.true)

pub raise_by_some-requires-clause-some : goal.raise_by_some-requires-clause-some
raise_by_some-requires-clause-some c = some-is c.args.z.now (sym c.is_nothing.ensures ∙ c.if-is_nothing.false)
