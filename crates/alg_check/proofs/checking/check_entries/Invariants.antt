use Rattle.std.proofs.Common.{◌≡◌, ◌≤◌, ◌+◌, List, length, map}
use Rattle.alg_proof.specs.LemmaRows.{rows_of}
use Rattle.alg_check.specs.Checking.{SaysOnly}
use Rattle.alg_check.specs.Entries.{Entry, AreEntriesOf}
use Rattle.alg_check.specs.Opened.{goal_seen}
use Rattle.alg_check.proofs.Standing.{Stands}
use Rattle.alg_check.proofs.checking.check_entries.Given as goal

abbrev pub invariant-entries : goal.invariant-entries
invariant-entries g l = record {
  stands : (es : List Entry) → AreEntriesOf l.fn.reader.lines es → Stands (rows_of l.lemmas) (map (goal_seen l.file) l.goals) l.reader l.before (g.H.Host.told l.fn.host) (g.H.Host.told l.host) l.tally es;
  fault : l.reader.fault ≡ l.fn.reader.fault;
  small : l.tally.accepted + l.tally.refused + length l.reader.lines ≤ length l.fn.reader.lines;
  faults : g.H.Host.faults l.host ≡ g.H.Host.faults l.fn.host;
  says : SaysOnly (g.H.Host.told l.fn.host) (g.H.Host.told l.host);
  complaint_faults : g.H.Host.complaint_faults l.host ≡ g.H.Host.complaint_faults l.fn.host;
}

abbrev pub decreases-entries : goal.decreases-entries
decreases-entries g l = length l.reader.lines
