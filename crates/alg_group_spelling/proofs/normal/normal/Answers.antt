use Rattle.std.proofs.Common.{◌≡◌, ◌+◌, suc, length, take, arith, ap, sym, ◌∙◌}
use Rattle.std.proofs.Math.Seq.{take-length}
use Rattle.alg_build.proofs.Lines.{grows-then}
use Rattle.alg_build.proofs.Rewritings.{grows-turns, turns-in}
use Rattle.alg_group_stack.proofs.WordLemmas.{grows-power}
use Rattle.alg_group_stack.proofs.JoinLemmas.{word-at}
use Rattle.alg_group_stack.proofs.StepLemmas.{turns-cast}
use Rattle.alg_group_spelling.proofs.NormalLemmas.{first-normal, first-word, next-shown}
use Rattle.alg_group_spelling.proofs.normal.normal.Goals as goal

pub returns-then-is_blank-clause-turns : goal.returns-then-is_blank-clause-turns
returns-then-is_blank-clause-turns c = rw (c.is_blank.ensures.yes c.if-is_blank.true) (c.keep-kept.ensures _ _ c.requires.home.one)

pub first_shown-requires-clause-power : goal.first_shown-requires-clause-power
first_shown-requires-clause-power c = (word-at _ _ _ _ _ c.requires.word (c.is_blank.ensures.no c.if-is_blank.false)).power

pub loop-i-init : goal.loop-i-init
loop-i-init c =
    let l = c.is_blank.ensures.no c.if-is_blank.false in
    record {
      some = omega arith;
      within = omega (arith, l);
      grows = c.first_shown.ensures.grows;
      turns = turns-cast _ _ _ _ _ _ _ (sym (first-word c.args.cx.now c.args.h.sort c.args.w.now _ l)) (sym (first-normal c.args.cx.now c.args.h.sort c.args.w.now _ l)) c.in_ok-turns.ensures.turns;
    }

pub shown-requires-clause-power : goal.shown-requires-clause-power
shown-requires-clause-power c = grows-power _ _ c.loop-i.invariant.grows _ _ (word-at _ _ _ _ _ c.requires.word c.loop-i-test.true).power

pub times-requires-clause-left : goal.times-requires-clause-left
times-requires-clause-left c = turns-in _ _ _ _ _ (grows-turns _ _ c.shown.ensures.grows _ _ _ _ c.loop-i.invariant.turns)

pub times-requires-clause-right : goal.times-requires-clause-right
times-requires-clause-right c = turns-in _ _ _ _ _ c.in_ok-r.ensures.turns

pub loop-i-preserved : goal.loop-i-preserved
loop-i-preserved c =
    let v = c.loop-i.invariant in
    let n : c.loop-i.i + 1 ≡ suc c.loop-i.i = omega arith in
    rw n (record {
      some = omega arith;
      within = omega (arith, c.loop-i-test.true);
      grows = grows-then _ _ _ v.grows (grows-then _ _ _ c.shown.ensures.grows c.times.ensures.grows);
      turns = next-shown _ _ _ v.grows _ _ c.requires.word _ _ c.loop-i-test.true v.some _ (c.in_ok-turns-2.ensures.turns _ _ _ _ (grows-turns _ _ c.shown.ensures.grows _ _ _ _ v.turns) c.in_ok-r.ensures.turns);
    })

pub returns-clause-turns : goal.returns-clause-turns
returns-clause-turns c =
    let v = c.loop-i.invariant in
    let e : c.loop-i.i ≡ length c.args.w.now = omega (arith, v.within, c.loop-i-test.false) in
    let t : take c.loop-i.i c.args.w.now ≡ c.args.w.now = ap (λ k. take k c.args.w.now) e ∙ take-length c.args.w.now in
    rw t at v.turns
