use Rattle.std.proofs.Common.{◌∙◌, sym, arith, rules}
use Rattle.alg_check.specs.Written.{seen_entry}
use Rattle.alg_check.proofs.Standing.{at_start, next, cut, cut_before, over, fault_said, fault_cut}
use Rattle.alg_check.proofs.Saying.{says_nothing, says_part, says_then}
use Rattle.alg_check.proofs.checking.check_entries.Goals as goal

pub entries-init : goal.entries-init
entries-init g c = record {
  stands = λ es h. at_start _ _ _ _ _ es c.new-tally.ensures.accepted c.new-tally.ensures.refused h;
  fault = search rules;
  small = omega (arith, c.new-tally.ensures.accepted, c.new-tally.ensures.refused);
  faults = search rules;
  complaint_faults = search rules;
  says = says_nothing _;
}

pub returns-in_err-next_entry-clause-checks : goal.returns-in_err-next_entry-clause-checks
returns-in_err-next_entry-clause-checks g c = λ es h. cut_before _ _ c.args.reader.now _ _ _ _ _ es c.from_residual.result c.from_residual.ensures.0 (c.entries.invariant.stands es h)

pub returns-in-Over-clause-checks : goal.returns-in-Over-clause-checks
returns-in-Over-clause-checks g c = λ es h.
    let gives = rw c.in-Over.is at c.in_ok-next_entry.ensures in
    over _ _ _ _ _ _ _ es gives.0 (c.entries.invariant.stands es h) c.args.reader.now (sym c.entries.invariant.fault ∙ gives.1)

pub returns-in_err-say_fault-in-Bad-clause-checks : goal.returns-in_err-say_fault-in-Bad-clause-checks
returns-in_err-say_fault-in-Bad-clause-checks g c = λ es h.
    let gives = rw c.in-Bad.is at c.in_ok-next_entry.ensures in
    fault_cut _ _ _ _ _ _ _ es gives.0 (c.entries.invariant.stands es h) c.args.reader.now c.in-Bad.fault.offset (sym c.entries.invariant.fault ∙ gives.1) _ c.say_fault.result _ c.say_fault.ensures.told c.from_residual-in_err-say_fault-in-Bad.ensures.0

pub returns-in-Bad-clause-checks : goal.returns-in-Bad-clause-checks
returns-in-Bad-clause-checks g c = λ es h.
    let gives = rw c.in-Bad.is at c.in_ok-next_entry.ensures in
    fault_said _ _ _ _ _ _ _ es gives.0 (c.entries.invariant.stands es h) c.args.reader.now c.in-Bad.fault.offset (sym c.entries.invariant.fault ∙ gives.1) _ c.say_fault.new.tally c.say_fault.result _ c.say_fault.ensures.told c.in_ok-say_fault-in-Bad.was c.in_ok-say_fault-in-Bad.ensures.tally

pub returns-in_err-check_entry-in-Entry-clause-checks : goal.returns-in_err-check_entry-in-Entry-clause-checks
returns-in_err-check_entry-in-Entry-clause-checks g c = λ es h.
    let gives = rw c.in-Entry.is at c.in_ok-next_entry.ensures in
    cut _ _ c.args.reader.now c.entries.reader c.next_entry.new.reader _ _ _ _ _ es (seen_entry c.in-Entry.entry) c.check_entry.result _ gives.0 c.check_entry.ensures.told c.from_residual-in_err-check_entry-in-Entry.ensures.0 (c.entries.invariant.stands es h)

pub entries-preserved : goal.entries-preserved
entries-preserved g c =
    let gives = rw c.in-Entry.is at c.in_ok-next_entry.ensures in
    record {
      stands = λ es h. next _ _ c.entries.reader c.next_entry.new.reader _ _ _ _ _ _ es (seen_entry c.in-Entry.entry) c.check_entry.result _ gives.0 c.check_entry.ensures.told c.check_entry.ensures.tally c.in_ok-check_entry-in-Entry.was (c.entries.invariant.stands es h);
      fault = gives.1 ∙ c.entries.invariant.fault;
      small = omega (arith, c.in_ok-check_entry-in-Entry.ensures.count, gives.2, c.entries.invariant.small);
      faults = c.check_entry.ensures.faults.kept (rw c.in_ok-check_entry-in-Entry.was (λ e. cc)) ∙ c.entries.invariant.faults;
      says = says_then _ _ _ c.entries.invariant.says c.check_entry.ensures.says;
      complaint_faults = c.check_entry.ensures.faults.complaint_faults ∙ c.entries.invariant.complaint_faults;
    }

pub returns-in_err-say_fault-in-Bad-clause-says : goal.returns-in_err-say_fault-in-Bad-clause-says
returns-in_err-say_fault-in-Bad-clause-says g c = says_then _ _ _ c.entries.invariant.says (says_part _ _ _ c.say_fault.result c.say_fault.ensures.told)

pub returns-in-Bad-clause-says : goal.returns-in-Bad-clause-says
returns-in-Bad-clause-says g c = says_then _ _ _ c.entries.invariant.says (says_part _ _ _ c.say_fault.result c.say_fault.ensures.told)

pub returns-in_err-check_entry-in-Entry-clause-says : goal.returns-in_err-check_entry-in-Entry-clause-says
returns-in_err-check_entry-in-Entry-clause-says g c = says_then _ _ _ c.entries.invariant.says c.check_entry.ensures.says
