-- The check of a certificate against the goals of a file.
use Rattle.std.specs.Prelude.{◌≡◌, ℕ, List, Option, Result, IfOk}
use Rattle.std.specs.Option.{option_map}
use Rattle.alg_host.specs.Host.{Told, Adds, adds_said}
use Rattle.alg_law.specs.Rows.{Row}
use Rattle.alg_certificate.specs.Reader.{Coming}
use Rattle.alg_check.specs.Entries.{Entry, AreEntriesOf}
use Rattle.alg_check.specs.Goals.{Goal}
use Rattle.alg_check.specs.Findings.{Finding, findings, tally_of}
use Rattle.alg_check.specs.declared.tallies.Tally.{Tally}
use Rattle.alg_check.specs.declared.stops.Stop.{Stop}

-- For the entries that the lines are: their text was said, or a beginning of it, and the tally is theirs.
abbrev pub Checks : (List Finding → Option ℕ → List ℕ) → List Row → List Goal → Coming → Option Told → Option Told → Result Tally Stop → Type 0
Checks text rows gs c before now result =
    (es : List Entry) → AreEntriesOf c.lines es
    → Adds adds_said (text (findings rows gs es) c.fault) result before now × IfOk result (λ t. t ≡ tally_of (findings rows gs es) c.fault)

-- whatever the lines are, something was said and nothing else was done
abbrev pub SaysOnly : Option Told → Option Told → Type 0
SaysOnly before now = (part : List ℕ) × (now ≡ option_map (adds_said part) before)
