use Rattle.horner_runs.proofs.Atoms.{can_double}
use Rattle.horner_runs.proofs.twice.Goals as goal

pub add-requires : goal.add-requires
add-requires c = can_double c.args.form.now c.requires
