use Rattle.std.proofs.Common.{arith, sym, ◌∙◌, ap, subst, drop}
use Rattle.alg_expr.specs.Ids.{trees_at}
use Rattle.alg_certificate_lines.specs.Typed.{node_of}
use Rattle.alg_certificate_lines.specs.Taking.{with_tree}
use Rattle.alg_certificate_lines.specs.Adding.{Makes, Takes, Pushes}
use Rattle.alg_certificate_lines.proofs.FlagLaws.{flag_closed}
use Rattle.alg_certificate_lines.proofs.GrowthLaws.{closing_at}
use Rattle.alg_certificate_lines.proofs.building.close_at.Goals as goal

pub returns-clause-takes : goal.returns-clause-takes
returns-clause-takes c = λ os.
    let old = c.args.arena.now in
    let new = c.build_node-built.new.arena in
    let es = c.args.ids.now.items in
    let o = node_of c.args.base.now c.args.sym (trees_at old (drop c.args.start es)) in
    let made = subst (λ xs. Makes new (node_of c.args.base.now c.args.sym (trees_at old xs)) c.build_node-built.result) (c.ids_from.ensures ∙ ap (drop c.args.start) c.as_slice.ensures.value) c.build_node-built.ensures.makes in
    subst (λ x. Takes new c.keep.new.ids.items os x c.keep.result)
    (ap (λ xs. with_tree (trees_at new xs) os o) c.truncate.ensures.items ∙ sym (closing_at c.args.base.now old new c.args.sym c.args.start es os c.build_node-built.ensures.keeps c.requires.here (omega arith)))
    (c.keep.ensures.takes o os made)

pub returns-clause-flag : goal.returns-clause-flag
returns-clause-flag c =
    let old = c.args.arena.now in
    let new = c.build_node-built.new.arena in
    let es = c.args.ids.now.items in
    let built = c.build_node-built.result in
    let made = subst (λ xs. Makes new (node_of c.args.base.now c.args.sym (trees_at old xs)) built) (c.ids_from.ensures ∙ ap (drop c.args.start) c.as_slice.ensures.value) c.build_node-built.ensures.makes in
    let pushed = subst (λ xs. Pushes xs c.keep.new.ids.items built c.keep.result) c.truncate.ensures.items c.keep.ensures.pushes in
    flag_closed c.args.base.now old new es c.keep.new.ids.items c.args.start c.args.sym built c.keep.result c.args.classed.now c.build_node-built.new.classed c.build_node-built.ensures.keeps c.requires.here c.requires.flag made
    c.build_node-built.ensures.flag pushed
