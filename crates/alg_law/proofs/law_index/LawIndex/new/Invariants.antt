use Rattle.std.specs.Prelude.{◌≡◌, ℕ, List, drop, map}
use Rattle.alg_law.specs.LawIndexing.{indexed}
use Rattle.alg_law.specs.LawRows.{row_of}
use Rattle.alg_law.specs.Laws.{law_table, rows_in, row_named}
use Rattle.alg_law.specs.RowNames.{first_some}
use Rattle.alg_law.proofs.law_index.LawIndex.new.Given as goal

abbrev pub invariant-loop-group : goal.invariant-loop-group
invariant-loop-group l = (n : List ℕ) → first_some (indexed l.table n) (row_named (rows_in (map (λ g. map row_of g.now) (drop l.group-index l.group-items))) n) ≡ row_named law_table n
