-- How many entries of each kind there are.
use Rattle.std.specs.Prelude.{◌≡◌, ℕ, ◌+◌, List, ◌++◌, codes, decimal}
use Rattle.alg_report.specs.declared.tally.Tally.{Tally}
use Rattle.alg_report.specs.Judged.{Verdict, Closed, Open, Failed}

abbrev pub total_of : Tally → ℕ
total_of t = t.closed + t.left + t.failed + t.errors

abbrev pub next_goal : Tally → ℕ
next_goal t = t.closed + t.left + t.failed + 1

abbrev pub plus : Tally → Tally → Tally
plus t u = record { closed = t.closed + u.closed; left = t.left + u.left; failed = t.failed + u.failed; errors = t.errors + u.errors }

abbrev pub with_verdict : Tally → Verdict → Tally
with_verdict t Closed = record t { closed = t.closed + 1 }
with_verdict t (Open s) = record t { left = t.left + 1 }
with_verdict t (Failed step cause) = record t { failed = t.failed + 1 }

abbrev pub with_error : Tally → Tally
with_error t = record t { errors = t.errors + 1 }

-- there are closed goals alone
pub record IsClear (t : Tally) : Type 0 where
  pub none_open : t.left ≡ 0
  pub none_failed : t.failed ≡ 0
  pub no_errors : t.errors ≡ 0

-- the last line of the report
abbrev pub tally_text : Tally → List ℕ
tally_text t = codes "closed " ++ (decimal t.closed ++ (codes ", open " ++ (decimal t.left ++ (codes ", failed " ++ (decimal t.failed ++ (codes ", errors " ++ (decimal t.errors ++ codes "\n")))))))
