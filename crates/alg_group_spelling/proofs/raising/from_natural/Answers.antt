use Rattle.std.proofs.Common.{ap, refl, sym, ◌∙◌}
use Rattle.alg_terms.specs.Tree.{Tree}
use Rattle.alg_build.proofs.Lines.{grows-then}
use Rattle.alg_build.proofs.Rewritings.{begins, grows-stands, grows-turns}
use Rattle.alg_rows.specs.Operations.{integer_power_tree}
use Rattle.alg_group_stack.proofs.Homes.{own-stands}
use Rattle.alg_group_stack.proofs.StepLemmas.{turns-cast}
use Rattle.alg_group_spelling.proofs.RaiseLemmas.{whole-natural}
use Rattle.alg_group_spelling.proofs.raising.from_natural.Goals as goal

pub natural_power-requires-clause-base : goal.natural_power-requires-clause-base
natural_power-requires-clause-base c = own-stands _ _ _ _ (grows-stands _ _ c.power.ensures.grows _ _ _ c.requires.base)

pub back-requires : goal.back-requires
back-requires c =
    let a = (grows-stands _ _ c.power.ensures.grows _ _ _ c.requires.base).tree in
    begins _ _ _ _ _ _ (grows-stands _ _ c.natural_power.ensures.grows _ _ _ c.in_ok-e.ensures.stands)
    (turns-cast _ _ _ _ _ _ _ (λ i. integer_power_tree c.args.h.sort (a i) (sym (whole-natural _ c.requires.natural) i)) refl (rw c.size_of.ensures at c.in_ok-r.ensures.turns))

pub returns-clause-turns : goal.returns-clause-turns
returns-clause-turns c =
    let a = (grows-stands _ _ c.power.ensures.grows _ _ _ c.requires.base).tree in
    rw a at (c.in_ok-p.ensures.turns _ _ _ (grows-stands _ _ c.natural_power.ensures.grows _ _ _ c.in_ok-e.ensures.stands)
    (turns-cast _ _ _ _ _ _ _ (λ i. integer_power_tree c.args.h.sort (a i) (sym (whole-natural _ c.requires.natural) i)) refl (rw c.size_of.ensures at c.in_ok-r.ensures.turns)))
