use Rattle.std.proofs.Common.{◌≡◌, ℕ, arith, get_or, subst, sym, true, false}
use Rattle.alg_marks.proofs.Walking.{next_parts}
use Rattle.alg_evaluation.specs.Found.{IsFound, absent}
use Rattle.alg_evaluation.proofs.Walking.{wanted_stands}
use Rattle.alg_evaluation.proofs.walk.next.Goals as goal

pub node-requires-clause-stands : goal.node-requires-clause-stands
node-requires-clause-stands g c =
    let want = subst (λ (i : ℕ). get_or c.args.wanted.now i false ≡ true) (sym c.id-e.ensures) c.if-not-wanted-number.false in
    wanted_stands _ _ _ c.requires.wanted (omega (arith, c.id-e.ensures, c.requires.room, c.requires.wanted.within)) want

pub node-requires-clause-parts : goal.node-requires-clause-parts
node-requires-clause-parts g c =
    let want = subst (λ (i : ℕ). get_or c.args.wanted.now i false ≡ true) (sym c.id-e.ensures) c.if-not-wanted-number.false in
    next_parts (IsFound _) absent _ _ _ _ c.requires.wanted c.requires.found c.id-e.ensures want
