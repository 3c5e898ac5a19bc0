use Rattle.std.proofs.Common.{◌≡◌, ℕ, List, [], ◌∷◌, ◌∙◌, sym, ap, subst}
use Rattle.std.proofs.lemmas.Option.{none-some}
use Rattle.alg_terms.specs.Tree.{Cons, Nil}
use Rattle.alg_proof.specs.declared.lines.BridgeKind.{BridgeKind}
use Rattle.alg_proof.specs.Steps.{Bridge}
use Rattle.alg_certificate.proofs.NumberLaws.{some_is}
use Rattle.alg_certificate.specs.Spelling.{bytes, spell_items, tree}
use Rattle.alg_certificate_lines.specs.Steps.{over_tree, trees_read, GivesLine}
use Rattle.alg_certificate_lines.proofs.CutLaws.{bridge_cut_is}
use Rattle.alg_certificate_lines.proofs.one_tree.read_bridge.Goals as goal

pub returns-in-Some-clause-gives : goal.returns-in-Some-clause-gives
returns-in-Some-clause-gives c = λ k n t f g e.
    let same : ◌≡◌ {A = BridgeKind × ℕ × List ℕ} (c.in-Some.kind, c.in-Some.number, c.in-Some.trees.now) (k, n, bytes (spell_items (tree t ∷ []))) = some_is _ _ (c.in-Some.ensures ∙ bridge_cut_is k n (tree t ∷ []) c.args.text.now f e) in
    subst (λ (q : BridgeKind × ℕ × List ℕ). GivesLine c.read_bridged.new.arena (over_tree (λ u. Bridge q.0 q.1 u) (trees_read c.args.base.now (Cons t Nil))) c.read_bridged.result) same
    (c.read_bridged.ensures.gives t g (sym (ap (λ (q : BridgeKind × ℕ × List ℕ). q.2) same)))

pub returns-in-None-clause-gives : goal.returns-in-None-clause-gives
returns-in-None-clause-gives c = λ k n t f g e. absurd (none-some _ (c.in-None.ensures ∙ bridge_cut_is k n (tree t ∷ []) c.args.text.now f e))
