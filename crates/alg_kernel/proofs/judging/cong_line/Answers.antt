use Rattle.std.specs.Prelude.{option_map}
use Rattle.alg_expr.specs.Ids.{statement_of, statements_of}
use Rattle.alg_proof.proofs.Admissible.{fine_lines, sides_sorts}
use Rattle.alg_kernel.proofs.judging.cong_line.Goals as goal

pub cong-requires-clause-sorts : goal.cong-requires-clause-sorts
cong-requires-clause-sorts c =
    sides_sorts c.args.grounds.now.base.now (option_map (statement_of c.args.arena.now) c.args.grounds.now.given) _
    (rw c.deref.ensures (fine_lines c.args.grounds.now.base.now (option_map (statement_of c.args.arena.now) c.args.grounds.now.given) (statements_of c.args.arena.now c.args.done.now) c.args.from.now (statements_of c.args.arena.now c.in_ok-parts.parts.items) c.requires.fine c.in_ok-parts.ensures.1))
