use Rattle.std.proofs.Common.{◌∙◌, sym, arith, add-one}
use Rattle.alg_expr.proofs.ArenaLaws.{Extends-then}
use Rattle.alg_kernel.proofs.InstanceLemmas.{premise-step}
use Rattle.alg_kernel.proofs.instances.premises_hold.Goals as goal

pub returns-then-not-branch-clause-test : goal.returns-then-not-branch-clause-test
returns-then-not-branch-clause-test c =
    let step = premise-step c.args.arena.now c.loop-i.arena c.args.letters.now c.args.sort c.args.with.now c.args.patterns.now c.args.lines.now c.loop-i.i _ _ c.loop-i.invariant.grown c.requires.with_in c.requires.lines_in c.loop-i-test.true c.requires.count c.in_ok-is_premise.field-0 c.in_ok-is_premise.ensures.test in
    sym (rw (c.if-not-branch.true) at step) ∙ c.loop-i.invariant.same

pub loop-i-preserved : goal.loop-i-preserved
loop-i-preserved c =
    let step = premise-step c.args.arena.now c.loop-i.arena c.args.letters.now c.args.sort c.args.with.now c.args.patterns.now c.args.lines.now c.loop-i.i _ _ c.loop-i.invariant.grown c.requires.with_in c.requires.lines_in c.loop-i-test.true c.requires.count c.in_ok-is_premise.field-0 c.in_ok-is_premise.ensures.test in
    record {
      within = omega (arith, c.loop-i-test.true);
      grown = Extends-then c.args.arena.now c.loop-i.arena c.is_premise.new.arena c.loop-i.invariant.grown c.is_premise.ensures.keeps;
      same = rw add-one (sym (rw (c.if-not-branch.false) at step) ∙ c.loop-i.invariant.same);
    }
