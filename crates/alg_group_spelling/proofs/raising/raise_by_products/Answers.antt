use Rattle.std.proofs.Common.{◌≡◌, ◌+◌, suc, pos, arith, refl, sym, subst, ◌∙◌, ap}
use Rattle.alg_terms.specs.declared.sorts.Sort.TheVariants.{Nat}
use Rattle.alg_terms.specs.Tree.{Lit}
use Rattle.alg_build.proofs.Lines.{grows-then}
use Rattle.alg_rows.specs.Operations.{power_tree}
use Rattle.alg_group_words.specs.Syllables.{joined}
use Rattle.alg_group_words.proofs.Powers.{raised-suc}
use Rattle.alg_group_stack.specs.Words.{IsWord, pairs_of, word_tree}
use Rattle.alg_group_stack.proofs.Homes.{own-stands}
use Rattle.alg_group_stack.proofs.WordLemmas.{grows-pairs, grows-word}
use Rattle.alg_group_stack.proofs.StepLemmas.{turns-cast, word-later}
use Rattle.alg_group_spelling.proofs.RaiseLemmas.{raised-first, room-once}
use Rattle.alg_group_spelling.proofs.raising.raise_by_products.Goals as goal

pub pow_one-requires-clause-a_stands : goal.pow_one-requires-clause-a_stands
pow_one-requires-clause-a_stands c = own-stands _ _ _ _ c.whole-all.ensures

pub loop-m-init : goal.loop-m-init
loop-m-init c = record {
  some = omega arith;
  within = omega (arith, c.requires.some);
  grows = c.pow_one.ensures.grows;
  word = subst (λ xs. IsWord c.pow_one.new.cx c.args.h.sort xs) (sym c.in_ok-word.ensures) (grows-word _ _ c.pow_one.ensures.grows _ _ c.requires.word);
  pairs = ap (pairs_of c.pow_one.new.cx) c.in_ok-word.ensures ∙ grows-pairs _ _ c.pow_one.ensures.grows _ _ c.requires.word ∙ sym (raised-first _ c.requires.runs);
  turns = turns-cast _ _ _ _ _ _ _ (ap (λ t. power_tree c.args.h.sort t (Lit Nat 1)) c.whole-all.ensures.tree)
      (c.whole-all.ensures.tree ∙ sym (word-later _ _ c.pow_one.ensures.grows _ _ c.requires.word) ∙ ap (λ xs. word_tree c.args.h.sort (pairs_of c.pow_one.new.cx xs)) (sym c.in_ok-word.ensures))
      c.in_ok-turns.ensures.turns;
}

pub raise_once_more-requires-clause-base : goal.raise_once_more-requires-clause-base
raise_once_more-requires-clause-base c = grows-word _ _ c.loop-m.invariant.grows _ _ c.requires.word

pub raise_once_more-requires-clause-room : goal.raise_once_more-requires-clause-room
raise_once_more-requires-clause-room c = room-once c.args.cx.now c.loop-m.cx c.args.w.now c.loop-m.word.items c.loop-m.m c.args.n c.loop-m.invariant.pairs (grows-pairs _ _ c.loop-m.invariant.grows _ _ c.requires.word) c.loop-m-test.true c.requires.room

pub raise_once_more-requires-clause-turns : goal.raise_once_more-requires-clause-turns
raise_once_more-requires-clause-turns c =
    turns-cast _ _ _ _ _ _ _ (ap (λ t. power_tree c.args.h.sort t (Lit Nat c.loop-m.m)) (sym (word-later _ _ c.loop-m.invariant.grows _ _ c.requires.word))) refl c.loop-m.invariant.turns

pub loop-m-preserved : goal.loop-m-preserved
loop-m-preserved c =
    let v = c.loop-m.invariant in
    let n : c.loop-m.m + 1 ≡ suc c.loop-m.m = omega arith in
    rw n (record {
      some = omega (arith, v.some);
      within = omega (arith, c.loop-m-test.true);
      grows = grows-then _ _ _ v.grows c.raise_once_more.ensures.grows;
      word = c.in_ok-turns-2.ensures.word;
      pairs = c.in_ok-turns-2.ensures.pairs ∙ (λ i. joined (v.pairs i) (grows-pairs _ _ v.grows _ _ c.requires.word i)) ∙ sym (raised-suc _ c.loop-m.m);
      turns = turns-cast _ _ _ _ _ _ _ (ap (λ t. power_tree c.args.h.sort t (Lit Nat (suc c.loop-m.m))) (word-later _ _ v.grows _ _ c.requires.word)) refl (rw n at c.in_ok-turns-2.ensures.turns);
    })

pub returns-clause-pairs : goal.returns-clause-pairs
returns-clause-pairs c =
    let e : c.loop-m.m ≡ c.args.n = omega (arith, c.loop-m.invariant.within, c.loop-m-test.false) in
    rw e at c.loop-m.invariant.pairs

pub returns-clause-turns : goal.returns-clause-turns
returns-clause-turns c =
    let e : c.loop-m.m ≡ c.args.n = omega (arith, c.loop-m.invariant.within, c.loop-m-test.false) in
    rw e at c.loop-m.invariant.turns
