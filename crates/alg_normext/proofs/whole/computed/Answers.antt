use Rattle.std.proofs.Common.{sym, subst}
use Rattle.alg_terms.specs.Tree.{Tree, App, of_list}
use Rattle.alg_proof.specs.Computations.{numerals_at}
use Rattle.alg_build.specs.Rewriting.{Turns}
use Rattle.alg_build.proofs.Lines.{adds-proves}
use Rattle.alg_build.proofs.Rewritings.{is-proved}
use Rattle.alg_normext.proofs.Numerals.{over-one}
use Rattle.alg_normext.proofs.whole.computed.Goals as goal

pub by_line-requires : goal.by_line-requires
by_line-requires c = is-proved _ _ _ _ (adds-proves _ _ _ _ _ _ (c.in_ok-line.ensures.adds c.args.value.numerator c.requires.value.value))

pub returns-clause-turns : goal.returns-clause-turns
returns-clause-turns c =
    let h = c.args.head in
    let proves = adds-proves _ _ _ _ _ _ (c.in_ok-line.ensures.adds c.args.value.numerator c.requires.value.value) in
    subst (λ (t : Tree). Turns c.compute.new.self h.sort c.by_line.result (App h.sym h.sort (of_list (numerals_at h.sort c.args.numbers.now))) t) (sym (over-one h.sort c.args.value c.requires.value.whole)) (c.by_line.ensures _ _ proves)
