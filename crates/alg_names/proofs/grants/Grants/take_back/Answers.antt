use Rattle.std.proofs.Common.{◌∙◌, subst, sym, List, ℕ}
use Rattle.alg_names.specs.declared.grants.Granted.{Granted}
use Rattle.alg_names.specs.Granting.{IsTabled}
use Rattle.alg_names.proofs.Granting.{IsTabled-back}
use Rattle.alg_names.proofs.grants.Grants.take_back.Goals as goal

pub invariant_of-self : goal.invariant_of-self
invariant_of-self c =
    let gs = c.pop.new.self.items in
    let t = c.self.inside.first.items in
    subst (λ (x : List ℕ). IsTabled gs x) (sym c.forget_item.ensures)
    (IsTabled-back gs t c.in-Some.last c.len-at.result (c.len-at.ensures ∙ c.pop.new.self.ok.0)
    (subst (λ (x : List Granted). IsTabled x t) c.in-Some.ensures.items c.self.invariant))
