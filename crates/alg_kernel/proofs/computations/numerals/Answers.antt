use Rattle.std.proofs.Common.{get_or}
use Rattle.std.specs.Prelude.{pos}
use Rattle.alg_expr.proofs.ArenaLaws.{Extends-then}
use Rattle.alg_kernel.proofs.NumeralLemmas.{all-small, numerals-more, ids-more, cast_back}
use Rattle.alg_kernel.proofs.computations.numerals.Goals as goal

pub numeral-requires : goal.numeral-requires
numeral-requires c =
    let h = all-small c.args.numbers.now c.requires.small c.loop-number.number-index (pos 0) c.loop-number-test.true in
    rw (cast_back (get_or c.args.numbers.now c.loop-number.number-index (pos 0)) h) h

pub returns-in_err-e-clause-keeps : goal.returns-in_err-e-clause-keeps
returns-in_err-e-clause-keeps c = Extends-then _ _ _ c.loop-number.invariant.grown c.numeral.ensures.keeps

pub returns-in_err-push-clause-keeps : goal.returns-in_err-push-clause-keeps
returns-in_err-push-clause-keeps c = Extends-then _ _ _ c.loop-number.invariant.grown c.numeral.ensures.keeps

pub loop-number-preserved : goal.loop-number-preserved
loop-number-preserved c =
    record {
      grown = Extends-then _ _ _ c.loop-number.invariant.grown c.numeral.ensures.keeps;
      here = ids-more c.loop-number.arena c.numeral.new.arena c.loop-number.args.items c.push.new.self.items c.in_ok-e.e c.numeral.ensures.keeps c.in_ok-e.ensures.made.here c.loop-number.invariant.here c.in_ok-push.ensures.items;
      trees = numerals-more c.loop-number.arena c.numeral.new.arena c.args.sort c.args.numbers.now c.loop-number.number-index (pos 0) c.loop-number.args.items c.push.new.self.items c.in_ok-e.e c.loop-number-test.true (rw (cast_back _ (all-small c.args.numbers.now c.requires.small c.loop-number.number-index (pos 0) c.loop-number-test.true)) at c.in_ok-e.ensures.made) c.loop-number.invariant.here c.in_ok-push.ensures.items c.loop-number.invariant.trees;
    }
