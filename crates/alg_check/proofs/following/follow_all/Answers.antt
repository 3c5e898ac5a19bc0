use Rattle.std.proofs.Common.{rules, arith, ◌∙◌, subst}
use Rattle.alg_expr.proofs.ArenaLaws.{Extends-then}
use Rattle.alg_proof.specs.Steps.{Theory}
use Rattle.alg_kernel.specs.State.{progress_of}
use Rattle.alg_check.specs.Following.{Follows}
use Rattle.alg_check.proofs.Steps.{bad_left, next_left, over_left, same_theory, left_at, left_none}
use Rattle.alg_check.proofs.following.follow_all.Goals as goal

pub returns-in_err-follow-clause-judged : goal.returns-in_err-follow-clause-judged
returns-in_err-follow-clause-judged c = λ ls aim h.
    let i = c.loop-text.invariant in
    let ts = c.args.texts.now in
    let th = same_theory c.args.arena.now c.loop-text.arena i.keeps c.args.kernel.now c.loop-text.kernel i.grounds c.requires.sound in
    bad_left _ ls aim _ _ c.loop-text.number _ _ c.in_err-follow.field-0.0 c.follow.result c.from_residual.result i.number (left_at _ _ ls aim ts c.loop-text.text-index _ c.loop-text-test.true (i.left ls aim h))
    (λ l s e. subst (λ (t : Theory). Follows t (progress_of c.loop-text.arena c.loop-text.kernel) l (progress_of c.follow.new.arena c.follow.new.kernel) c.follow.result) th (c.follow.ensures.follows l s e)) c.in_err-follow.was (search rules)

pub loop-text-preserved : goal.loop-text-preserved
loop-text-preserved c =
    let i = c.loop-text.invariant in
    let ts = c.args.texts.now in
    let th = same_theory c.args.arena.now c.loop-text.arena i.keeps c.args.kernel.now c.loop-text.kernel i.grounds c.requires.sound in
    record {
      keeps = Extends-then _ _ _ i.keeps c.follow.ensures.keeps;
      grounds = c.follow.ensures.grounds ∙ i.grounds;
      sound = c.follow.ensures.sound;
      based = search rules;
      number = c.in_ok-follow.ensures.number;
      counted = omega arith;
      left = λ ls aim h.
          next_left _ ls aim _ _ c.loop-text.number _ _ c.follow.result _ i.number (left_at _ _ ls aim ts c.loop-text.text-index _ c.loop-text-test.true (i.left ls aim h))
          (λ l s e. subst (λ (t : Theory). Follows t (progress_of c.loop-text.arena c.loop-text.kernel) l (progress_of c.follow.new.arena c.follow.new.kernel) c.follow.result) th (c.follow.ensures.follows l s e)) c.in_ok-follow.was;
    }

pub returns-clause-judged : goal.returns-clause-judged
returns-clause-judged c = λ ls aim h. over_left _ _ ls aim (left_none _ _ ls aim c.args.texts.now c.loop-text.text-index (omega arith) (c.loop-text.invariant.left ls aim h))
