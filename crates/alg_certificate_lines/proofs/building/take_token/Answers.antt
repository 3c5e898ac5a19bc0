use Rattle.std.proofs.Common.{sym, subst}
use Rattle.alg_expr.specs.Ids.{trees_at}
use Rattle.alg_certificate_lines.specs.Known.{variable_sort}
use Rattle.alg_certificate_lines.specs.Typed.{variable_of_sort}
use Rattle.alg_certificate_lines.specs.Words.{sort_named, symbol_named}
use Rattle.alg_certificate_lines.specs.Taking.{with_tree, opening, literal_in, newest, taken}
use Rattle.alg_certificate.specs.Seen.{seen}
use Rattle.alg_certificate_lines.specs.Adding.{Takes}
use Rattle.alg_certificate_lines.proofs.FlagLaws.{flag_still, flag_kept}
use Rattle.alg_certificate_lines.proofs.GrowthLaws.{trees_kept}
use Rattle.alg_certificate_lines.proofs.building.take_token.Goals as goal

pub returns-in-Open-clause-takes : goal.returns-in-Open-clause-takes
returns-in-Open-clause-takes c =
    let made = subst (λ xs. Takes c.args.arena.now xs (newest c.open_node.new.opened.items) (opening (trees_at c.args.arena.now xs) (newest c.args.opened.now.items) (symbol_named c.in-Open.word.now)) c.open_node.result) c.as_slice.ensures.value c.open_node.ensures in
    subst (λ t. Takes c.args.arena.now c.args.ids.now.items (newest c.open_node.new.opened.items) (taken c.args.base.now (seen t) (trees_at c.args.arena.now c.args.ids.now.items) (newest c.args.opened.now.items)) c.open_node.result) (sym c.in-Open.is) made

pub returns-in-Lit-clause-takes : goal.returns-in-Lit-clause-takes
returns-in-Lit-clause-takes c =
    let os = newest c.args.opened.now.items in
    let o = literal_in (sort_named c.in-Lit.word.now) c.in-Lit.value in
    let new = c.build_literal-built.new.arena in
    let kept = subst (λ ts. Takes new c.keep.new.ids.items os (with_tree ts os o) c.keep.result)
    (trees_kept c.args.arena.now new c.args.ids.now.items c.build_literal-built.ensures.keeps c.requires.here)
    (c.keep.ensures.takes o os c.build_literal-built.ensures.makes) in
    subst (λ t. Takes new c.keep.new.ids.items os (taken c.args.base.now (seen t) (trees_at c.args.arena.now c.args.ids.now.items) os) c.keep.result) (sym c.in-Lit.is) kept

pub returns-in-Var-clause-takes : goal.returns-in-Var-clause-takes
returns-in-Var-clause-takes c =
    let os = newest c.args.opened.now.items in
    let o = variable_of_sort c.in-Var.number (variable_sort c.args.base.now c.in-Var.number) in
    let new = c.build_variable-built.new.arena in
    let kept = subst (λ ts. Takes new c.keep-in-Var.new.ids.items os (with_tree ts os o) c.keep-in-Var.result)
    (trees_kept c.args.arena.now new c.args.ids.now.items c.build_variable-built.ensures.keeps c.requires.here)
    (c.keep-in-Var.ensures.takes o os c.build_variable-built.ensures.makes) in
    subst (λ t. Takes new c.keep-in-Var.new.ids.items os (taken c.args.base.now (seen t) (trees_at c.args.arena.now c.args.ids.now.items) os) c.keep-in-Var.result) (sym c.in-Var.is) kept

pub returns-in-Open-clause-flag : goal.returns-in-Open-clause-flag
returns-in-Open-clause-flag c = flag_still c.args.base.now c.args.arena.now c.args.ids.now.items c.open_node.result c.args.classed.now c.requires.flag

pub returns-in-Lit-clause-flag : goal.returns-in-Lit-clause-flag
returns-in-Lit-clause-flag c =
    flag_kept c.args.base.now c.args.arena.now c.build_literal-built.new.arena c.args.ids.now.items c.keep.new.ids.items c.build_literal-built.result c.keep.result c.args.classed.now c.build_literal-built.new.classed
    c.build_literal-built.ensures.keeps c.requires.here c.requires.flag c.build_literal-built.ensures.flag c.keep.ensures.pushes

pub returns-in-Var-clause-flag : goal.returns-in-Var-clause-flag
returns-in-Var-clause-flag c =
    flag_kept c.args.base.now c.args.arena.now c.build_variable-built.new.arena c.args.ids.now.items c.keep-in-Var.new.ids.items c.build_variable-built.result c.keep-in-Var.result c.args.classed.now c.build_variable-built.new.classed
    c.build_variable-built.ensures.keeps c.requires.here c.requires.flag c.build_variable-built.ensures.flag c.keep-in-Var.ensures.pushes
