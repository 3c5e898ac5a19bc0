use Rattle.std.proofs.Common.{◌≡◌, length}
use Rattle.alg_expansions.specs.Setting.{setting_of}
use Rattle.alg_ring_range.specs.Found.{AreFound}
use Rattle.alg_ring_range.proofs.walk.all_found.Given as goal

abbrev pub invariant-loop : goal.invariant-loop
invariant-loop l = record {
  count : length l.found.items ≡ l.counter;
  found : AreFound (setting_of l.base) l.arena l.wanted l.found.items;
}
