use Rattle.std.proofs.Common.{◌≡◌, ◌≤◌, length}
use Rattle.alg_check.specs.Written.{seen_entry, texts_from, texts_in}
use Rattle.alg_check.proofs.entries.next_entry.Given as goal

abbrev pub invariant-lines : goal.invariant-lines
invariant-lines l = record {
  same : texts_from (seen_entry l.entry) l.reader.lines ≡ texts_in l.fn.reader.lines;
  fault : l.reader.fault ≡ l.fn.reader.fault;
  fewer : length l.reader.lines ≤ length l.fn.reader.lines;
}

abbrev pub decreases-lines : goal.decreases-lines
decreases-lines l = length l.reader.lines
