use Rattle.std.specs.Prelude.{option_map}
use Rattle.alg_expr.specs.Ids.{statement_of, statements_of}
use Rattle.alg_proof.proofs.Admissible.{fine_lines}
use Rattle.alg_kernel.proofs.InstanceLemmas.{lines-sorted}
use Rattle.alg_kernel.proofs.judging.law_line.Goals as goal

pub instance-requires-clause-sorted : goal.instance-requires-clause-sorted
instance-requires-clause-sorted c =
    rw c.deref.ensures
    (lines-sorted c.args.grounds.now.base.now (option_map (statement_of c.args.arena.now) c.args.grounds.now.given) c.args.arena.now c.in_ok-lines.lines.items
    (fine_lines c.args.grounds.now.base.now (option_map (statement_of c.args.arena.now) c.args.grounds.now.given) (statements_of c.args.arena.now c.args.done.now) c.args.from.now (statements_of c.args.arena.now c.in_ok-lines.lines.items) c.requires.fine c.in_ok-lines.ensures.1))
