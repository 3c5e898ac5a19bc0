use Rattle.std.proofs.Common.{sym, ◌∙◌}
use Rattle.std.specs.Prelude.{pos}
use Rattle.alg_kernel.proofs.NumeralLemmas.{numerals-next}
use Rattle.alg_kernel.proofs.computations.has_numerals.Goals as goal

pub loop-number-preserved : goal.loop-number-preserved
loop-number-preserved c = sym (numerals-next c.args.base.now c.args.sort c.args.numbers.now c.loop-number.number-index (pos 0) c.loop-number-test.true (sym c.has_numeral.ensures ∙ c.if-not-has_numeral.false)) ∙ c.loop-number.invariant
