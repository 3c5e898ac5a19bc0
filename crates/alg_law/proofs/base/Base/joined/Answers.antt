use Rattle.std.proofs.Common.{◌≡◌, ◌∙◌, ap, subst, sym, List, length, take, arith, rules}
use Rattle.std.proofs.lemmas.List.{length-map}
use Rattle.alg_law.specs.Declarations.{Declaration, declaration_of, declarations_of, hypotheses}
use Rattle.alg_law.specs.Prefixes.{IsLending}
use Rattle.alg_law.proofs.PrefixLemmas.{IsLending-joined}
use Rattle.alg_law.proofs.base.Base.joined.Goals as goal

pub invariant_of-result : goal.invariant_of-result
invariant_of-result c =
    let ds = c.args.shared.now in
    let es = declarations_of c.args.from.now c.args.local.now in
    let v : c.in_ok-lend.field-0 ≡ ds = c.in_ok-lend.ensures in
    let l : c.push_all.new.self ≡ es = search rules in
    let g : c.count-given.result ≡ length (hypotheses (take c.args.prefix ds)) = c.count-given.ensures ∙ ap (λ x. length (hypotheses (take c.args.prefix x))) c.declared.ensures in
    subst (λ (x : List Declaration). IsLending x c.args.prefix c.count-given.result c.push_all.new.self) (sym v)
    (subst (λ (x : List Declaration). IsLending ds c.args.prefix c.count-given.result x) (sym l)
    (IsLending-joined ds es c.args.prefix c.count-given.result c.requires.within (omega (arith, length-map c.args.local.now (declaration_of c.args.from.now))) g c.len-declarations.ensures.well_formed c.requires.fit))
