use Rattle.std.proofs.Common.{◌<◌, ◌++◌, ◌∷◌, [], ◌∙◌, subst, sym, List, ℕ, arith}
use Rattle.alg_names.specs.declared.grants.Granted.{Granted}
use Rattle.alg_names.specs.Granting.{IsTabled}
use Rattle.alg_names.proofs.Granting.{IsTabled-padded, IsTabled-push}
use Rattle.alg_names.proofs.grants.Grants.push.Goals as goal

pub invariant_of-self-2 : goal.invariant_of-self-2
invariant_of-self-2 c =
    let gs = c.self.inside.items.items in
    let t = c.make_room_for.new.first.items in
    let room : c.len-at.result < 4294967295 = grind (arith, c.if-at.false) in
    subst (λ (x : List Granted). IsTabled x c.note_for.new.first.items) (sym c.in_ok-push.ensures.items)
    (subst (λ (x : List ℕ). IsTabled (gs ++ c.args.granted ∷ []) x) (sym c.note_for.ensures)
    (IsTabled-push gs t c.args.granted c.len-at.result (c.len-at.ensures ∙ c.self.inside.items.ok.0) room c.in_ok-make_room_for.ensures.room
    (IsTabled-padded gs c.self.inside.first.items t c.in_ok-make_room_for.ensures.same c.self.invariant)))
