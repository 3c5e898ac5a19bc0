use Rattle.std.proofs.Common.{rules, ◌≡◌, ◌++◌, List, length, [], ◌∷◌, reverse, sym, ◌∙◌, ap, subst}
use Rattle.alg_syntax.specs.declared.expressions.Waiting.{Waiting}
use Rattle.alg_syntax.specs.Machine.{first_at, longer_at, whole_at}
use Rattle.alg_syntax.specs.Nodes.{tree_at}
use Rattle.alg_syntax.specs.Frames.{frame_of, frames_of, FramesIn, weight}
use Rattle.alg_syntax.proofs.Turns.{stepped, failed, at_begin, at_longer, at_close, at_end, if_some, at_waiting, fewer, fewer_popped}
use Rattle.alg_syntax.proofs.expressions.read_nodes.Goals as goal

pub reading-preserved-in-Begin : goal.reading-preserved-in-Begin
reading-preserved-in-Begin c =
    let w = if_some _ _ _ c.in_ok-then-in-Begin.ensures.within c.in-Some.is in
    let s = if_some _ _ _ c.in_ok-then-in-Begin.ensures.smaller c.in-Some.is in
    record {
      runs = stepped _ _ _ _ _ _ _ _ _ _ (λ k. first_at k c.in-Begin.at_least (frames_of c.reading.nodes (reverse c.reading.waiting.items)) c.reading.left) c.reading.invariant.runs (at_begin _ _ _ _ _ c.in-Begin.is) c.in_ok-then-in-Begin.ensures.exact (fewer _ _ _ _ _ _ _ (ap weight c.in-Begin.is) s) c.in-Some.is;
      turn_in = w.0;
      frames_in = w.1;
    }

pub returns-in_default-clause-exact : goal.returns-in_default-clause-exact
returns-in_default-clause-exact c =
    failed _ _ _ c.begin.new.nodes _ _ c.begin.new.waiting.items c.begin.new.left _ (λ k. first_at k c.in-Begin.at_least (frames_of c.reading.nodes (reverse c.reading.waiting.items)) c.reading.left) c.reading.invariant.runs (at_begin _ _ _ _ _ c.in-Begin.is) c.in_ok-then-in-Begin.ensures.exact c.in_default.is

pub reading-preserved-then-takes : goal.reading-preserved-then-takes
reading-preserved-then-takes c =
    let w = if_some _ _ _ c.in_ok-then-in-Go.ensures.within c.in-Some-2.is in
    let s = if_some _ _ _ c.in_ok-then-in-Go.ensures.smaller c.in-Some-2.is in
    record {
      runs = stepped _ _ _ _ _ _ _ _ _ _ (λ k. longer_at k c.in-Go.at_least (tree_at c.reading.nodes c.in-Go.part) (frames_of c.reading.nodes (reverse c.reading.waiting.items)) c.reading.left) c.reading.invariant.runs (at_longer _ _ _ _ _ _ c.in-Go.is (sym c.takes.ensures ∙ c.if-takes.true)) c.in_ok-then-in-Go.ensures.exact (fewer _ _ _ _ _ _ _ (ap weight c.in-Go.is) s) c.in-Some-2.is;
      turn_in = w.0;
      frames_in = w.1;
    }

pub returns-in_default-2-clause-exact : goal.returns-in_default-2-clause-exact
returns-in_default-2-clause-exact c =
    failed _ _ _ c.longer.new.nodes _ _ c.longer.new.waiting.items c.longer.new.left _ (λ k. longer_at k c.in-Go.at_least (tree_at c.reading.nodes c.in-Go.part) (frames_of c.reading.nodes (reverse c.reading.waiting.items)) c.reading.left) c.reading.invariant.runs (at_longer _ _ _ _ _ _ c.in-Go.is (sym c.takes.ensures ∙ c.if-takes.true)) c.in_ok-then-in-Go.ensures.exact c.in_default-2.is

pub returns-in_default-pop-clause-exact : goal.returns-in_default-pop-clause-exact
returns-in_default-pop-clause-exact c =
    let e : c.reading.waiting.items ≡ [] = search rules in
    at_end _ _ _ _ _ _ _ c.reading.invariant.runs c.in-Go.is (sym c.takes.ensures ∙ c.if-takes.false) e

pub returns-in_default-3-clause-exact : goal.returns-in_default-3-clause-exact
returns-in_default-3-clause-exact c =
    failed _ _ _ c.close.new.nodes _ _ c.deref.result.now c.close.new.left _ (λ k. whole_at k (tree_at c.reading.nodes c.in-Go.part) (frame_of c.reading.nodes c.in-Some-pop.last ∷ frames_of c.reading.nodes (reverse c.deref.result.now)) c.reading.left) c.reading.invariant.runs (at_close _ _ _ _ _ _ _ _ c.in-Go.is (sym c.takes.ensures ∙ c.if-takes.false) (c.in-Some-pop.ensures.items ∙ ap (λ (xs : List Waiting). xs ++ c.in-Some-pop.last ∷ []) (sym c.deref.ensures.value))) c.in_ok-then-in-Go-2.ensures.exact c.in_default-3.is

pub reading-preserved : goal.reading-preserved
reading-preserved c =
    let w = if_some _ _ _ c.in_ok-then-in-Go-2.ensures.within c.in-Some-3.is in
    let s = if_some _ _ _ c.in_ok-then-in-Go-2.ensures.smaller c.in-Some-3.is in
    let popped = c.in-Some-pop.ensures.items ∙ ap (λ (xs : List Waiting). xs ++ c.in-Some-pop.last ∷ []) (sym c.deref.ensures.value) in
    record {
      runs = at_waiting _ _ _ c.deref.result.now c.pop.new.self.items _ c.deref.ensures.value (stepped _ _ _ _ _ _ _ _ _ _ (λ k. whole_at k (tree_at c.reading.nodes c.in-Go.part) (frame_of c.reading.nodes c.in-Some-pop.last ∷ frames_of c.reading.nodes (reverse c.deref.result.now)) c.reading.left) c.reading.invariant.runs (at_close _ _ _ _ _ _ _ _ c.in-Go.is (sym c.takes.ensures ∙ c.if-takes.false) popped) c.in_ok-then-in-Go-2.ensures.exact (fewer_popped _ _ _ _ _ _ _ _ (ap weight c.in-Go.is) popped s) c.in-Some-3.is);
      turn_in = w.0;
      frames_in = subst (λ (xs : List Waiting). FramesIn (length c.close.new.nodes) (reverse xs)) c.deref.ensures.value w.1;
    }
