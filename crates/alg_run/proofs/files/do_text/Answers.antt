use Rattle.std.proofs.Common.{inl}
use Rattle.alg_report.proofs.Seeing.{read_runs}
use Rattle.alg_run.proofs.Reading.{did_read}
use Rattle.alg_run.proofs.files.do_text.Goals as goal

pub do_file-requires-clause-commands : goal.do_file-requires-clause-commands
do_file-requires-clause-commands g c = read_runs c.args.text.now c.in-Ok-read_goals.file c.in-Ok-read_goals.ensures.read c.in-Ok-read_goals.ensures.declarable

pub returns-in-Ok-read_goals-clause-done : goal.returns-in-Ok-read_goals-clause-done
returns-in-Ok-read_goals-clause-done g c = inl (did_read _ _ _ c.args.text.now c.in-Ok-read_goals.file _ _ _ c.utf8.text c.in-Ok-read_goals.ensures.read c.do_file.ensures.told c.do_file.ensures.all_closed)
