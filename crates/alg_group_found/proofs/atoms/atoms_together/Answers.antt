use Rattle.std.proofs.Common.{◌≡◌, ◌+◌, suc, arith, All, append-nil, ap, subst, sym, ◌∙◌}
use Rattle.alg_expr.specs.Ids.{trees_at, IsIn}
use Rattle.alg_group_found.proofs.FoundLemmas.{added-here, added-trees}
use Rattle.alg_group_found.proofs.atoms.atoms_together.Goals as goal

pub loop-x-init : goal.loop-x-init
loop-x-init c = record {
  here = subst (λ es. All (IsIn c.args.cx.now.trees) es) (sym c.in_ok-all.ensures) c.requires.rest;
  trees = ap (trees_at c.args.cx.now.trees) c.in_ok-all.ensures ∙ sym (append-nil _);
}

pub loop-x-preserved : goal.loop-x-preserved
loop-x-preserved c =
    let v = c.loop-x.invariant in
    let n : c.loop-x.x-index + 1 ≡ suc c.loop-x.x-index = omega arith in
    rw n (record {
      here = added-here _ _ _ _ c.loop-x-test.true _ _ _ c.requires.first v.here c.in_ok-add_new.ensures;
      trees = added-trees _ _ _ _ c.loop-x-test.true _ _ _ v.trees c.in_ok-add_new.ensures;
    })
