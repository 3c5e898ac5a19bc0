use Rattle.std.proofs.Common.{◌≡◌, ◌<◌, get_or, length, subst, sym, ap, ◌∙◌}
use Rattle.std.proofs.lemmas.List.{get_or_default}
use Rattle.alg_expr.specs.Ids.{tree_of}
use Rattle.alg_evaluation.specs.declared.found.Found.{Found}
use Rattle.alg_evaluation.specs.Found.{IsFound, absent}
use Rattle.alg_evaluation.proofs.FoundFacts.{found_at, found_within}
use Rattle.alg_evaluation.proofs.reading.found_of.Goals as goal

pub returns : goal.returns
returns c covers h =
    let within : c.args.e.index < length c.args.found.now = found_within c.args.wanted.now c.args.found.now c.args.e c.requires.all c.requires.wanted in
    let r = c.index-found-number.result in
    let same : r ≡ get_or c.args.found.now c.args.e.index absent = c.index-found-number.is ∙ ap (λ i. get_or c.args.found.now i r) c.number.ensures ∙ get_or_default c.args.found.now c.args.e.index r absent within in
    subst (λ (f : Found). IsFound covers c.args.cx.now (tree_of c.args.cx.now.trees c.args.e) f) (sym same) (found_at covers c.args.cx.now c.args.wanted.now c.args.found.now c.args.e h c.requires.all c.requires.wanted)
