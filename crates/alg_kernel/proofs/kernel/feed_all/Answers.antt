use Rattle.std.proofs.Common.{rules, refl, ◌∙◌}
use Rattle.alg_expr.proofs.ArenaLaws.{Extends-then}
use Rattle.alg_proof.specs.Lines.{steps_of}
use Rattle.alg_kernel.specs.State.{progress_of}
use Rattle.alg_kernel.proofs.KernelLemmas.{feed_all-good, feed_all-bad}
use Rattle.alg_kernel.proofs.kernel.feed_all.Goals as goal

pub returns-in_err-feed-clause-answers : goal.returns-in_err-feed-clause-answers
returns-in_err-feed-clause-answers c =
    feed_all-bad c.args.arena.now c.loop-line.arena c.args.kernel.now c.loop-line.kernel c.requires.sound c.loop-line.invariant.grown c.loop-line.invariant.grounds c.feed.new.arena c.feed.new.self c.args.lines.now c.loop-line.line-index _ c.requires.lines_in c.loop-line-test.true _ c.loop-line.invariant.same
    (progress_of c.args.arena.now c.args.kernel.now) (steps_of c.args.arena.now c.args.lines.now) refl c.feed.result c.from_residual.result c.in_err-feed.field-0.0 c.in_err-feed.was (search rules) (rw c.line-item.is at c.feed.ensures.answers)

pub loop-line-preserved : goal.loop-line-preserved
loop-line-preserved c =
    record {
      grown = Extends-then _ _ _ c.loop-line.invariant.grown c.feed.ensures.keeps;
      sound = c.feed.ensures.sound;
      grounds = c.feed.ensures.grounds ∙ c.loop-line.invariant.grounds;
      same =
          feed_all-good c.args.arena.now c.loop-line.arena c.args.kernel.now c.loop-line.kernel c.requires.sound c.loop-line.invariant.grown c.loop-line.invariant.grounds c.feed.new.arena c.feed.new.self c.args.lines.now c.loop-line.line-index _ c.requires.lines_in c.loop-line-test.true _ c.loop-line.invariant.same
          c.feed.result c.in_ok-feed.field-0 c.in_ok-feed.was (rw c.line-item.is at c.feed.ensures.answers);
    }
