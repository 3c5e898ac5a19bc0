use Rattle.std.proofs.Common.{◌≡◌, length}
use Rattle.alg_expansions.specs.Setting.{setting_of}
use Rattle.alg_ring_range.specs.Work.{Counts, AreCounts, AreWorks}
use Rattle.alg_ring_range.proofs.work_walk.all_works.Given as goal

abbrev pub invariant-loop : goal.invariant-loop
invariant-loop l = record {
  count : length l.works.items ≡ l.counter;
  works : (o : Counts) → AreCounts o l.arena l.counts l.steps → AreWorks o (setting_of l.base) l.arena l.wanted l.works.items;
}
