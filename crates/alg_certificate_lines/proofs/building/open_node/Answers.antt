use Rattle.std.proofs.Common.{sym, ◌∙◌, ap, ◌∷◌, Some}
use Rattle.std.proofs.lemmas.List.{length-map}
use Rattle.alg_expr.specs.Ids.{tree_of, trees_at}
use Rattle.alg_certificate_lines.specs.Taking.{opening, newest}
use Rattle.alg_certificate_lines.proofs.GrowthLaws.{newest_push}
use Rattle.alg_certificate_lines.proofs.building.open_node.Goals as goal

pub returns-in-Ok : goal.returns-in-Ok
returns-in-Ok c =
    let ts = trees_at c.args._arena.now c.args.ids.now in
    let os = newest c.args.opened.now.items in (
      c.requires,
      ap (opening ts os) (sym c.in-Some.ensures.read)
          ∙ (ap (λ n. Some (ts, (c.in-Some.sym, n) ∷ os)) (length-map c.args.ids.now (tree_of c.args._arena.now))
          ∙ ap (λ x. Some (ts, x)) (sym (ap newest c.in-Ok.ensures.items ∙ newest_push c.args.opened.now.items (c.in-Some.sym, _)))),
    )
