use Rattle.alg_proof.specs.Lines.{steps_of}
use Rattle.alg_scripts.proofs.Writing.{line_written, lines_left, ranged_with}
use Rattle.alg_scripts.proofs.entries.write_lines.Goals as goal

pub lines-preserved : goal.lines-preserved
lines-preserved c = record {
  written = line_written c.args.arena.now c.lines.left.now c.in-Some.rest.now c.in-Some.line.now c.lines.out.items c.write_line.new.out.items c.push.new.self.items _ c.in-Some.ensures.cases.0 c.in_ok-write_line.ensures.written
      c.in_ok-push.ensures.items c.lines.invariant.written;
  in_range = ranged_with c.args.arena.now c.lines.left.now c.in-Some.rest.now c.in-Some.line.now (steps_of c.args.arena.now c.args.lines.now) c.in-Some.ensures.cases.0 c.in_ok-write_line.ensures.in_range
      c.lines.invariant.in_range;
  lines_in = lines_left c.args.arena.now c.lines.left.now c.in-Some.rest.now c.in-Some.line.now c.in-Some.ensures.cases.0 c.lines.invariant.lines_in;
}
