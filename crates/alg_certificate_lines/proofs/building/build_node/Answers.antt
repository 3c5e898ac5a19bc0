use Rattle.std.proofs.Common.{◌&&◌, sym, ◌∙◌, ap, subst, Err}
use Rattle.alg_expr.specs.Applying.{Builds, sorts_at}
use Rattle.alg_certificate_lines.specs.Known.{is_good}
use Rattle.alg_certificate_lines.specs.Typed.{is_sorted}
use Rattle.alg_certificate_lines.proofs.FlagLaws.{head_is}
use Rattle.alg_certificate_lines.proofs.NodeLaws.{node_unsorted, node_there, no_arity}
use Rattle.alg_certificate_lines.proofs.building.build_node.Goals as goal

pub returns-then-not-is_sorted-clause-makes : goal.returns-then-not-is_sorted-clause-makes
returns-then-not-is_sorted-clause-makes c =
    node_unsorted c.args.base.now c.args.sym c.args.arena.now c.args.args.now c.in-Some.sort (sym c.in-Some.ensures)
    (ap is_sorted (sym c.mark_for_head-mark.ensures) ∙ (sym c.is_sorted.ensures ∙ c.if-not-is_sorted.true))

pub returns-in-Ok-clause-makes : goal.returns-in-Ok-clause-makes
returns-in-Ok-clause-makes c = (
  c.in-Ok.ensures.ok.here,
  node_there c.args.base.now c.args.sym c.args.arena.now c.args.args.now c.in-Some.sort _ (sym c.in-Some.ensures)
      (ap is_sorted (sym c.mark_for_head-mark.ensures) ∙ (sym c.is_sorted.ensures ∙ c.if-not-is_sorted.false)) c.in-Ok.ensures.ok.tree,
)

pub returns-in-Err-BadArity-clause-makes : goal.returns-in-Err-BadArity-clause-makes
returns-in-Err-BadArity-clause-makes c =
    absurd (no_arity c.args.base.now c.args.sym c.in-Some.sort (sorts_at c.args.arena.now c.args.args.now)
    (ap is_sorted (sym c.mark_for_head-mark.ensures) ∙ (sym c.is_sorted.ensures ∙ c.if-not-is_sorted.false)) (subst (λ x. Builds c.args.sym c.in-Some.sort (sorts_at c.args.arena.now c.args.args.now) (Err x)) c.in-Err-BadArity.field-0-is c.in-Err-BadArity.ensures.cause))

pub returns-in-Ok-clause-flag : goal.returns-in-Ok-clause-flag
returns-in-Ok-clause-flag c =
    c.narrow.ensures
    ∙ ap (λ b. c.args.classed.now && b) (c.is_good.ensures
    ∙ (ap is_good c.mark_for_head-mark.ensures
    ∙ head_is c.args.base.now c.args.sym c.in-Some.sort c.args.arena.now c.args.args.now _ c.in-Ok.ensures.ok.tree))
