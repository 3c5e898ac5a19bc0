use Rattle.std.proofs.Common.{◌≡◌, Some, sym, ◌∙◌}
use Rattle.alg_expr.specs.Ids.{tree_of}
use Rattle.alg_group_found.specs.Exponents.{exponent}
use Rattle.alg_group_found.proofs.FoundLemmas.{grows-atoms, same-atoms}
use Rattle.alg_group_found.proofs.ReachLemmas.{integer_power-raised}
use Rattle.alg_group_found.proofs.powers.found_integer_power.Goals as goal

pub returns-in_ok-reach-in-Some-clause-found : goal.returns-in_ok-reach-in-Some-clause-found
returns-in_ok-reach-in-Some-clause-found c =
    let e : exponent c.args.cx.now.theory.declarations (tree_of c.args.cx.now.trees c.args.k) ≡ Some c.in-Some.number = (sym c.requires.exponent.value_is ∙ c.in-Some.is) in
    let f = (rw e at c.requires.exponent.turns).fits in
    record {
      atoms = grows-atoms _ _ c.reach_of_integer_power.ensures.grows _ _ _ (same-atoms _ _ _ _ (integer_power-raised c.args.cx.now.theory.declarations c.args.h.sort (tree_of c.args.cx.now.trees c.args.a) (tree_of c.args.cx.now.trees c.args.k) c.in-Some.number e f).atoms _ _ c.requires.part.atoms (c.in_ok-atoms-in-Some.ensures ∙ c.deref.ensures.value));
      reach = c.in_ok-reach-in-Some.ensures.reached;
    }
