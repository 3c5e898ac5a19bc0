use Rattle.std.proofs.Common.{◌∙◌, Ok, ap, arith}
use Rattle.std.specs.Prelude.{map}
use Rattle.alg_proof.specs.LemmaRows.{rows_of}
use Rattle.alg_certificate.specs.Reader.{coming_of}
use Rattle.alg_check.proofs.EntryLaws.{entries_of_reader}
use Rattle.alg_check.specs.Goals.{goals_seen}
use Rattle.alg_check.specs.Opened.{goal_seen}
use Rattle.alg_check.specs.Text.{whole_text}
use Rattle.alg_check.proofs.Counting.{few_lines}
use Rattle.alg_check.proofs.Standing.{certificate_cut, last_cut, last_said, checks_of}
use Rattle.alg_check.proofs.Saying.{says_nothing, says_part, says_then}
use Rattle.alg_check.proofs.checking.check_certificate.Goals as goal

pub check_entries-requires-clause-small : goal.check_entries-requires-clause-small
check_entries-requires-clause-small g c = omega (arith, few_lines c.args.bytes.now c.new-reader.result c.new-reader.ensures.coming)

pub returns-in_err-tally-clause-checks : goal.returns-in_err-tally-clause-checks
returns-in_err-tally-clause-checks g c =
    checks_of whole_text (rows_of c.args.lemmas.now) (map (goal_seen c.args.file.now) c.deref.result.now) (goals_seen c.args.file.now) c.new-reader.result (coming_of c.args.bytes.now) _ _ _ (ap (map (goal_seen c.args.file.now)) c.deref.ensures.value ∙ c.in_ok-goals.ensures.seen) c.new-reader.ensures.coming (certificate_cut _ _ _ _ _ c.check_entries.result _ c.check_entries.ensures.checks c.from_residual-in_err-tally.ensures.0)

pub returns-in_err-say_last-clause-checks : goal.returns-in_err-say_last-clause-checks
returns-in_err-say_last-clause-checks g c =
    checks_of whole_text (rows_of c.args.lemmas.now) (map (goal_seen c.args.file.now) c.deref.result.now) (goals_seen c.args.file.now) c.new-reader.result (coming_of c.args.bytes.now) _ _ _ (ap (map (goal_seen c.args.file.now)) c.deref.ensures.value ∙ c.in_ok-goals.ensures.seen) c.new-reader.ensures.coming (last_cut _ _ _ _ _ _ c.in_ok-tally.tally c.check_entries.result c.in_ok-tally.was c.check_entries.ensures.checks _ _ c.say_last.ensures.told c.from_residual-in_err-say_last.ensures.0)

pub returns-clause-checks : goal.returns-clause-checks
returns-clause-checks g c =
    checks_of whole_text (rows_of c.args.lemmas.now) (map (goal_seen c.args.file.now) c.deref.result.now) (goals_seen c.args.file.now) c.new-reader.result (coming_of c.args.bytes.now) _ _ (Ok c.in_ok-tally.tally) (ap (map (goal_seen c.args.file.now)) c.deref.ensures.value ∙ c.in_ok-goals.ensures.seen) c.new-reader.ensures.coming (last_said _ _ _ _ _ _ c.in_ok-tally.tally c.check_entries.result c.in_ok-tally.was c.check_entries.ensures.checks _ _ c.say_last.ensures.told c.in_ok-say_last.was)

pub returns-in_err-goals-clause-says : goal.returns-in_err-goals-clause-says
returns-in_err-goals-clause-says g c = says_nothing _

pub returns-in_err-say_last-clause-says : goal.returns-in_err-say_last-clause-says
returns-in_err-say_last-clause-says g c = says_then _ _ _ c.check_entries.ensures.says (says_part _ _ _ c.say_last.result c.say_last.ensures.told)

pub returns-clause-says : goal.returns-clause-says
returns-clause-says g c = says_then _ _ _ c.check_entries.ensures.says (says_part _ _ _ c.say_last.result c.say_last.ensures.told)

pub returns-in_err-goals-clause-entries : goal.returns-in_err-goals-clause-entries
returns-in_err-goals-clause-entries g c = entries_of_reader c.args.bytes.now c.new-reader.result (coming_of c.args.bytes.now) c.new-reader.ensures.grammar c.new-reader.ensures.coming

pub returns-in_err-tally-clause-entries : goal.returns-in_err-tally-clause-entries
returns-in_err-tally-clause-entries g c = entries_of_reader c.args.bytes.now c.new-reader.result (coming_of c.args.bytes.now) c.new-reader.ensures.grammar c.new-reader.ensures.coming

pub returns-in_err-say_last-clause-entries : goal.returns-in_err-say_last-clause-entries
returns-in_err-say_last-clause-entries g c = entries_of_reader c.args.bytes.now c.new-reader.result (coming_of c.args.bytes.now) c.new-reader.ensures.grammar c.new-reader.ensures.coming

pub returns-clause-entries : goal.returns-clause-entries
returns-clause-entries g c = entries_of_reader c.args.bytes.now c.new-reader.result (coming_of c.args.bytes.now) c.new-reader.ensures.grammar c.new-reader.ensures.coming
