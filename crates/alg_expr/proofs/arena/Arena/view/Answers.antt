use Rattle.std.proofs.Common.{◌≡◌, ◌∙◌, ap, sym, subst, Some}
use Rattle.std.specs.Option.{option_map}
use Rattle.std.specs.List.{slice_get}
use Rattle.alg_expr.specs.declared.nodes.Node.{Node}
use Rattle.alg_expr.specs.Nodes.{tree_at, IsBelow, IsSmall}
use Rattle.alg_expr.proofs.Adding.{entry_tree}
use Rattle.alg_expr.proofs.arena.Arena.view.Goals as goal

pub returns-in-Lit-clause-shows : goal.returns-in-Lit-clause-shows
returns-in-Lit-clause-shows c =
    let at : slice_get c.self.inside.nodes.entries c.args.id.index ≡ Some (c.unwrap.result.0.now, c.unwrap.result.1.now) = sym c.get_index.ensures.entry ∙ ap (option_map _) c.unwrap.ensures in
    (entry_tree c.self.inside.nodes.entries c.args.self.now c.args.id _ _ c.self.view_is c.self.invariant c.requires at).0 ∙ ap (tree_at c.args.self.now) c.in-Lit.is

pub returns-in-Var-clause-shows : goal.returns-in-Var-clause-shows
returns-in-Var-clause-shows c =
    let at : slice_get c.self.inside.nodes.entries c.args.id.index ≡ Some (c.unwrap.result.0.now, c.unwrap.result.1.now) = sym c.get_index.ensures.entry ∙ ap (option_map _) c.unwrap.ensures in
    (entry_tree c.self.inside.nodes.entries c.args.self.now c.args.id _ _ c.self.view_is c.self.invariant c.requires at).0 ∙ ap (tree_at c.args.self.now) c.in-Var.is

pub returns-in-App-clause-shows : goal.returns-in-App-clause-shows
returns-in-App-clause-shows c =
    let at : slice_get c.self.inside.nodes.entries c.args.id.index ≡ Some (c.unwrap.result.0.now, c.unwrap.result.1.now) = sym c.get_index.ensures.entry ∙ ap (option_map _) c.unwrap.ensures in
    let h = entry_tree c.self.inside.nodes.entries c.args.self.now c.args.id _ _ c.self.view_is c.self.invariant c.requires at in
    rw c.as_slice.ensures
    (h.0 ∙ ap (tree_at c.args.self.now) c.in-App.is, subst (λ (m : Node). IsBelow c.args.id.index m) c.in-App.is h.1)

pub returns-in-Lit-clause-small : goal.returns-in-Lit-clause-small
returns-in-Lit-clause-small c =
    let at : slice_get c.self.inside.nodes.entries c.args.id.index ≡ Some (c.unwrap.result.0.now, c.unwrap.result.1.now) = sym c.get_index.ensures.entry ∙ ap (option_map _) c.unwrap.ensures in
    subst IsSmall c.in-Lit.is (entry_tree c.self.inside.nodes.entries c.args.self.now c.args.id _ _ c.self.view_is c.self.invariant c.requires at).2
