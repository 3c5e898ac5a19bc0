use Rattle.std.proofs.Common.{sym, ◌∙◌, ap, subst}
use Rattle.alg_expr.specs.Ids.{trees_at}
use Rattle.alg_certificate_lines.specs.Taking.{closing, newest}
use Rattle.alg_certificate_lines.specs.Adding.{Takes}
use Rattle.alg_certificate_lines.proofs.GrowthLaws.{newest_push}
use Rattle.alg_certificate_lines.proofs.building.close_node.Goals as goal

pub returns-clause-takes : goal.returns-clause-takes
returns-clause-takes c =
    subst (λ os. Takes c.close_at.new.arena c.close_at.new.ids.items (newest c.pop.new.self.items) (closing c.args.base.now (trees_at c.args.arena.now c.args.ids.now.items) os) c.close_at.result)
    (sym (ap newest c.in-Some.ensures.items ∙ newest_push c.pop.new.self.items (c.in-Some.sym, c.in-Some.start)))
    (c.close_at.ensures.takes (newest c.pop.new.self.items))
