use Rattle.std.specs.Prelude.{◌≡◌, ℕ, List, drop, map}
use Rattle.alg_law.specs.LawIndexing.{indexed}
use Rattle.alg_law.specs.LawRows.{row_of}
use Rattle.alg_law.specs.Laws.{row_named}
use Rattle.alg_law.specs.RowNames.{first_some}
use Rattle.alg_law.proofs.law_index.add_group.Given as goal

abbrev pub invariant-loop-law : goal.invariant-loop-law
invariant-loop-law l = (n : List ℕ) → first_some (indexed l.table n) (row_named (map row_of (drop l.law-index l.group)) n) ≡ first_some (indexed l.fn.table n) (row_named (map row_of l.fn.group) n)
