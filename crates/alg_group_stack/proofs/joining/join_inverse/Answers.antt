use Rattle.std.proofs.Common.{◌≡◌, ◌-◌, ◌<◌, suc, length, take, arith, ap, refl, sym, ◌∙◌}
use Rattle.std.proofs.Math.Seq.{take-length}
use Rattle.alg_terms.specs.Tree.{product_tree}
use Rattle.alg_build.proofs.Lines.{grows-then}
use Rattle.alg_build.proofs.Rewritings.{follows, grows-turns, turns-in}
use Rattle.alg_rows.specs.Operations.{inverse_tree}
use Rattle.alg_group_words.specs.Syllables.{joined_inverse}
use Rattle.alg_group_stack.specs.Words.{pairs_of, word_tree}
use Rattle.alg_group_stack.proofs.WordLemmas.{grows-pairs, grows-power, grows-word}
use Rattle.alg_group_stack.proofs.JoinLemmas.{drop-all, room-drop, word-at, word-take}
use Rattle.alg_group_stack.proofs.StepLemmas.{after, inverse-start, taken-pairs, taken-turns, turns-cast, word-later}
use Rattle.alg_group_stack.proofs.joining.join_inverse.Goals as goal

pub beside_inverse-requires-clause-turns : goal.beside_inverse-requires-clause-turns
beside_inverse-requires-clause-turns c = turns-in _ _ _ _ _ (c.keep-begun.ensures _ _ c.whole-left.ensures)

pub loop-i-init : goal.loop-i-init
loop-i-init c =
    let g = c.beside_inverse.ensures.grows in
    record {
      within = omega arith;
      grows = g;
      word = grows-word _ _ g _ _ c.requires.left;
      pairs = grows-pairs _ _ g _ _ c.requires.left ∙ sym (inverse-start _) ∙ ap (λ xs. joined_inverse (pairs_of c.args.cx.now c.args.stack.now.items) (pairs_of c.args.cx.now xs)) (sym (drop-all c.args.w.now));
      turns = turns-cast _ _ _ _ _ _ _
          (ap (λ t. product_tree c.args.h.sort (word_tree c.args.h.sort (pairs_of c.args.cx.now c.args.stack.now.items)) (inverse_tree c.args.h.sort t)) c.whole-right.ensures.tree)
          (λ i. product_tree c.args.h.sort (sym (word-later _ _ g _ _ c.requires.left) i) (inverse_tree c.args.h.sort ((c.whole-right.ensures.tree ∙ ap (λ xs. word_tree c.args.h.sort (pairs_of c.args.cx.now xs)) (sym (take-length c.args.w.now))) i)))
          (c.in_ok-turns.ensures.turns _ _ (c.keep-begun.ensures _ _ (rw c.as_slice.ensures.value at c.whole-left.ensures)));
    }

pub whole-before-requires-clause-word : goal.whole-before-requires-clause-word
whole-before-requires-clause-word c = word-take _ _ _ _ (grows-word _ _ c.loop-i.invariant.grows _ _ c.requires.right)

pub take_out-requires-clause-power : goal.take_out-requires-clause-power
take_out-requires-clause-power c =
    let l : c.loop-i.i - 1 < length c.args.w.now = omega (arith, c.loop-i.invariant.within, c.loop-i-test.true) in
    grows-power _ _ c.loop-i.invariant.grows _ _ (word-at _ _ _ _ _ c.requires.right l).power

pub take_out-requires-clause-room : goal.take_out-requires-clause-room
take_out-requires-clause-room c =
    let l : c.loop-i.i - 1 < length c.args.w.now = omega (arith, c.loop-i.invariant.within, c.loop-i-test.true) in
    let n : c.loop-i.i ≡ suc (c.loop-i.i - 1) = omega (arith, c.loop-i-test.true) in
    room-drop _ _ _ _ _ l _ _ c.requires.room (rw n at c.loop-i.invariant.pairs)

pub then-requires : goal.then-requires
then-requires c =
    let v = c.loop-i.invariant in
    let l : c.loop-i.i - 1 < length c.args.w.now = omega (arith, v.within, c.loop-i-test.true) in
    let n : c.loop-i.i ≡ suc (c.loop-i.i - 1) = omega (arith, c.loop-i-test.true) in
    follows _ _ _ _ _ _ _ (grows-turns _ _ c.take_out.ensures.grows _ _ _ _ (rw n at v.turns))
    (taken-turns _ _ _ v.grows c.take_out.ensures.grows _ _ c.requires.right _ _ l _ _ _ _ c.whole-before.ensures c.in_ok-r.ensures.turns)

pub returns-in_err-turns-2-clause-grows : goal.returns-in_err-turns-2-clause-grows
returns-in_err-turns-2-clause-grows c = grows-then _ _ _ c.loop-i.invariant.grows (grows-then _ _ _ c.take_out.ensures.grows c.then.ensures.grows)

pub loop-i-preserved : goal.loop-i-preserved
loop-i-preserved c =
    let v = c.loop-i.invariant in
    let l : c.loop-i.i - 1 < length c.args.w.now = omega (arith, v.within, c.loop-i-test.true) in
    let n : c.loop-i.i ≡ suc (c.loop-i.i - 1) = omega (arith, c.loop-i-test.true) in
    let t = c.in_ok-turns-2.ensures.turns _ _ _ _ (grows-turns _ _ c.take_out.ensures.grows _ _ _ _ (rw n at v.turns))
    (taken-turns _ _ _ v.grows c.take_out.ensures.grows _ _ c.requires.right _ _ l _ _ _ _ c.whole-before.ensures c.in_ok-r.ensures.turns) in
    record {
      within = omega (arith, v.within);
      grows = grows-then _ _ _ v.grows (grows-then _ _ _ c.take_out.ensures.grows c.then.ensures.grows);
      word = grows-word _ _ c.then.ensures.grows _ _ c.in_ok-r.ensures.word;
      pairs = grows-pairs _ _ c.then.ensures.grows _ _ c.in_ok-r.ensures.word ∙ taken-pairs _ _ _ v.grows c.take_out.ensures.grows _ _ c.requires.right _ _ l _ _ _ (rw n at v.pairs) c.in_ok-r.ensures.pairs;
      turns = turns-cast _ _ _ _ _ _ _ refl (ap (λ t. product_tree c.args.h.sort t (inverse_tree c.args.h.sort (word_tree c.args.h.sort (pairs_of c.args.cx.now (take (c.loop-i.i - 1) c.args.w.now))))) (sym (word-later _ _ c.then.ensures.grows _ _ c.in_ok-r.ensures.word))) t;
    }

pub then-requires-2 : goal.then-requires-2
then-requires-2 c =
    let z : c.loop-i.i ≡ 0 = omega (arith, c.loop-i-test.false) in
    follows _ _ _ _ _ _ _ (grows-turns _ _ c.word_inv_end.ensures.grows _ _ _ _ (rw z at c.loop-i.invariant.turns))
    (rw (rw c.as_slice-2.ensures.value at c.whole-left-2.ensures).tree at c.in_ok-end.ensures.turns)

pub returns-clause-word : goal.returns-clause-word
returns-clause-word c = grows-word _ _ (grows-then _ _ _ c.word_inv_end.ensures.grows c.then-2.ensures.grows) _ _ c.loop-i.invariant.word

pub returns-clause-pairs : goal.returns-clause-pairs
returns-clause-pairs c =
    let z : c.loop-i.i ≡ 0 = omega (arith, c.loop-i-test.false) in
    grows-pairs _ _ (grows-then _ _ _ c.word_inv_end.ensures.grows c.then-2.ensures.grows) _ _ c.loop-i.invariant.word ∙ (rw z at c.loop-i.invariant.pairs)

pub returns-clause-turns : goal.returns-clause-turns
returns-clause-turns c =
    let z : c.loop-i.i ≡ 0 = omega (arith, c.loop-i-test.false) in
    let t = c.in_ok-p.ensures.turns _ _ _ _ (grows-turns _ _ c.word_inv_end.ensures.grows _ _ _ _ (rw z at c.loop-i.invariant.turns))
    (rw (rw c.as_slice-2.ensures.value at c.whole-left-2.ensures).tree at c.in_ok-end.ensures.turns) in
    (after _ _ _ _ _ _ _ (grows-then _ _ _ c.word_inv_end.ensures.grows c.then-2.ensures.grows) c.loop-i.invariant.word refl t).turns
