use Rattle.std.proofs.Common.{◌≡◌, true, false, arith, Some, None, sym, ◌∙◌}
use Rattle.alg_check.specs.Written.{seen_entry, is_end}
use Rattle.alg_certificate.specs.Reader.{seen_line}
use Rattle.alg_check.proofs.Reading.{none_left, fault_kept, line_same, line_fewer, entry_same}
use Rattle.alg_check.proofs.entries.next_entry.Goals as goal

pub returns-in-Err : goal.returns-in-Err
returns-in-Err c = none_left _ _ (seen_entry c.lines.entry) c.lines.invariant.same c.lines.invariant.fault (Some c.in-Err.fault.offset) c.in-Err.ensures.comes.0

pub returns-in-Ok-None : goal.returns-in-Ok-None
returns-in-Ok-None c = none_left _ _ (seen_entry c.lines.entry) c.lines.invariant.same c.lines.invariant.fault None (rw c.in-Ok-None.field-0-is at c.in-Ok-None.ensures.comes).0

pub returns-then-branch : goal.returns-then-branch
returns-then-branch c =
    let ends : is_end (seen_line c.in-Ok-Some.line) ≡ true = sym c.in_ok-add-in-Ok-Some.ensures.end ∙ c.if-branch.true in
    let i = c.lines.invariant in (
      entry_same _ _ _ i.same i.fault c.next.new.self _ (seen_line c.in-Ok-Some.line) i.fewer (rw c.in-Ok-Some.field-0-is at c.in-Ok-Some.ensures.comes) c.in_ok-add-in-Ok-Some.ensures.entry ends,
      fault_kept _ _ _ i.same i.fault c.next.new.self _ (seen_line c.in-Ok-Some.line) i.fewer (rw c.in-Ok-Some.field-0-is at c.in-Ok-Some.ensures.comes) c.in_ok-add-in-Ok-Some.ensures.entry,
      line_fewer _ _ _ i.same i.fault c.next.new.self _ (seen_line c.in-Ok-Some.line) i.fewer (rw c.in-Ok-Some.field-0-is at c.in-Ok-Some.ensures.comes) c.in_ok-add-in-Ok-Some.ensures.entry,
    )

pub lines-preserved : goal.lines-preserved
lines-preserved c =
    let goes : is_end (seen_line c.in-Ok-Some.line) ≡ false = sym c.in_ok-add-in-Ok-Some.ensures.end ∙ c.if-branch.false in
    let i = c.lines.invariant in
    record {
      same = line_same _ _ _ i.same i.fault c.next.new.self _ (seen_line c.in-Ok-Some.line) i.fewer (rw c.in-Ok-Some.field-0-is at c.in-Ok-Some.ensures.comes) c.in_ok-add-in-Ok-Some.ensures.entry goes;
      fault = fault_kept _ _ _ i.same i.fault c.next.new.self _ (seen_line c.in-Ok-Some.line) i.fewer (rw c.in-Ok-Some.field-0-is at c.in-Ok-Some.ensures.comes) c.in_ok-add-in-Ok-Some.ensures.entry;
      fewer = omega (arith, line_fewer _ _ _ i.same i.fault c.next.new.self _ (seen_line c.in-Ok-Some.line) i.fewer (rw c.in-Ok-Some.field-0-is at c.in-Ok-Some.ensures.comes) c.in_ok-add-in-Ok-Some.ensures.entry);
    }
