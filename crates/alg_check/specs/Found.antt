-- What was found in the code, and how it counts.
use Rattle.std.specs.Prelude.{◌+◌, Bool, true, false}
use Rattle.alg_check.specs.Findings.{Finding, no_goal, of_goal, is_accepted}
use Rattle.alg_check.specs.declared.tallies.Tally.{Tally}
use Rattle.alg_check.specs.declared.checking.Finding as code
use Rattle.alg_check.specs.declared.checking.Finding.TheVariants.{NoGoal, OfGoal}

abbrev pub seen_finding : code.Finding → Finding
seen_finding (NoGoal n) = no_goal n
seen_finding (OfGoal label a) = of_goal label.now a

abbrev pub one_more : Bool → Tally → Tally
one_more true t = record t { accepted = t.accepted + 1 }
one_more false t = record t { refused = t.refused + 1 }

abbrev pub counted : Finding → Tally → Tally
counted f t = one_more (is_accepted f) t
