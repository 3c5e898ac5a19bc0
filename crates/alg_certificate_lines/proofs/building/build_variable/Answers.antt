use Rattle.std.proofs.Common.{◌&&◌, sym, ◌∙◌, ap}
use Rattle.alg_terms.specs.Tree.{Tree}
use Rattle.alg_law.specs.WellSorted.{mark_of}
use Rattle.alg_certificate_lines.specs.Known.{is_good}
use Rattle.alg_certificate_lines.proofs.FlagLaws.{variable_good}
use Rattle.alg_certificate_lines.proofs.building.build_variable.Goals as goal

pub returns-in-Ok-clause-flag : goal.returns-in-Ok-clause-flag
returns-in-Ok-clause-flag c =
    c.narrow.ensures
    ∙ ap (λ b. c.args.classed.now && b) (c.is_good.ensures
    ∙ (ap is_good c.mark_for_sort.ensures
    ∙ (sym (variable_good c.args.base.now c.args.number c.in-Some.sort (sym c.in-Some.ensures))
    ∙ ap (λ (t : Tree). is_good (mark_of c.args.base.now t)) (sym c.in-Ok.ensures.ok.tree))))
