use Rattle.std.proofs.Common.{◌≡◌, ◌+◌, suc, arith, refl, sym, ◌∙◌}
use Rattle.alg_build.proofs.Lines.{grows-then}
use Rattle.alg_build.proofs.Rewritings.{grows-stands}
use Rattle.alg_group_stack.proofs.Homes.{own-stands, grows-home}
use Rattle.alg_group_stack.proofs.WordLemmas.{grows-pairs, grows-power, grows-word}
use Rattle.alg_group_stack.proofs.JoinLemmas.{room-next, word-at}
use Rattle.alg_group_stack.proofs.StepLemmas.{after, joined-start, next-pairs, next-turns, next-whole}
use Rattle.alg_group_stack.proofs.joining.join.Goals as goal

pub loop-x-init : goal.loop-x-init
loop-x-init c =
    let g = c.mul_one.ensures.grows in
    let w = rw c.as_slice.ensures.value at c.whole-left.ensures in
    record {
      grows = g;
      word = grows-word _ _ g _ _ c.requires.left;
      pairs = grows-pairs _ _ g _ _ c.requires.left ∙ sym (joined-start _);
      left = grows-stands _ _ g _ _ _ w;
      before = (grows-home _ _ _ g c.requires.home).one;
      turns = (after _ _ _ _ _ _ _ g c.requires.left refl (rw w.tree at c.in_ok-turns.ensures.turns)).turns;
    }

pub join_one-requires-clause-power : goal.join_one-requires-clause-power
join_one-requires-clause-power c = grows-power _ _ c.loop-x.invariant.grows _ _ (word-at _ _ _ _ _ c.requires.right c.loop-x-test.true).power

pub join_one-requires-clause-room : goal.join_one-requires-clause-room
join_one-requires-clause-room c = room-next _ _ _ _ _ c.loop-x-test.true _ _ c.requires.room c.loop-x.invariant.pairs

pub join_one-requires-clause-left : goal.join_one-requires-clause-left
join_one-requires-clause-left c = own-stands _ _ _ _ c.loop-x.invariant.left

pub join_one-requires-clause-before : goal.join_one-requires-clause-before
join_one-requires-clause-before c = own-stands _ _ _ _ c.loop-x.invariant.before

pub join_one-requires-clause-turns : goal.join_one-requires-clause-turns
join_one-requires-clause-turns c = rw (c.loop-x.invariant.left.tree, c.loop-x.invariant.before.tree) c.loop-x.invariant.turns

pub loop-x-preserved : goal.loop-x-preserved
loop-x-preserved c =
    let v = c.loop-x.invariant in
    let n : c.loop-x.x-index + 1 ≡ suc c.loop-x.x-index = omega arith in
    rw n (record {
      grows = grows-then _ _ _ v.grows c.join_one.ensures.grows;
      word = c.in_ok-turns-2.ensures.word;
      pairs = next-pairs _ _ _ v.grows c.join_one.ensures.grows _ _ c.requires.right _ _ c.loop-x-test.true _ _ _ v.pairs c.in_ok-turns-2.ensures.pairs;
      left = grows-stands _ _ c.join_one.ensures.grows _ _ _ v.left;
      before = next-whole _ _ _ v.grows c.join_one.ensures.grows _ _ c.requires.right _ _ c.loop-x-test.true;
      turns = next-turns _ _ _ v.grows c.join_one.ensures.grows _ _ c.requires.right _ _ c.loop-x-test.true _ _ _ (rw (v.left.tree, v.before.tree) at c.in_ok-turns-2.ensures.turns);
    })
