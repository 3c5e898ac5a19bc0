use Rattle.std.proofs.Common.{ap, subst, sym}
use Rattle.alg_terms.specs.Tree.{sort_of_tree}
use Rattle.alg_group_found.specs.Shapes.{IsShape}
use Rattle.alg_group_found.proofs.shape.shape_of.Goals as goal

pub returns-in-App : goal.returns-in-App
returns-in-App c =
    let t = rw c.arena.ensures at c.in-App.ensures.shows.0 in
    subst (λ s. IsShape c.args.cx.now.trees c.args.e s c.over.result) (sym (ap sort_of_tree t)) (c.over.ensures _ _ _ t c.in-App.ensures.shows.1)
