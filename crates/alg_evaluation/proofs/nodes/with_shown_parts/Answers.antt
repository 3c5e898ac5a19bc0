use Rattle.std.proofs.Common.{map}
use Rattle.alg_terms.specs.Tree.{sort_of_tree}
use Rattle.alg_values.specs.Setting.{setting}
use Rattle.alg_values.specs.Normal.{normal}
use Rattle.alg_evaluation.proofs.Parting.{its_heads, normals-list, shown_parts, shown_turn}
use Rattle.alg_evaluation.proofs.nodes.with_shown_parts.Goals as goal

pub under-requires : goal.under-requires
under-requires c =
    let a = c.requires.applied.1 in
    rw (c.deref.ensures.value, c.in_ok-turned.ensures) (shown_parts c.requires.applied.0 c.args.cx.now c.args.head a.trees a.stands c.args.parts.now a.found)

pub returns-clause-turns : goal.returns-clause-turns
returns-clause-turns c covers a =
    let b = c.args.cx.now in
    rw normals-list (c.in_ok-r.ensures.turns c.args.head.sort (map sort_of_tree a.trees) a.trees (map (normal (setting b.theory.declarations covers)) a.trees) a.stands
    (rw (c.deref.ensures.value, c.in_ok-turned.ensures) (shown_turn covers b a.trees c.args.parts.now a.found))
    (its_heads covers b c.args.head a.trees a.stands))
