use Rattle.std.proofs.Common.{◌-◌, arith}
use Rattle.alg_expr.proofs.ArenaLaws.{Extends-then}
use Rattle.alg_kernel.proofs.FillingLemmas.{filled-before}
use Rattle.alg_kernel.proofs.filling.build_all.Goals as goal

pub loop-i-preserved : goal.loop-i-preserved
loop-i-preserved c =
    record {
      within = omega (arith, c.loop-i.invariant.within);
      grown = Extends-then c.args.arena.now c.loop-i.arena c.place.new.arena c.loop-i.invariant.grown c.place.ensures.keeps;
      here = c.in_ok-place.ensures.stack_in;
      built = λ ds. filled-before ds c.args.arena.now c.loop-i.arena c.place.new.arena c.args.nodes.now (c.loop-i.i - 1) c.loop-i.i _ c.args.letters.now c.args.sort c.args.with.now c.loop-i.stack.items c.place.new.stack.items (omega (arith, c.loop-i-test.true)) c.loop-i.invariant.within c.loop-i.invariant.grown c.requires.with_in (c.loop-i.invariant.built ds) (c.in_ok-place.ensures.put ds);
    }
