use Rattle.alg_build.proofs.Rewritings.{concluded, proves-there}
use Rattle.alg_build.proofs.combining.by_line.Goals as goal

pub concluded-requires : goal.concluded-requires
concluded-requires c = proves-there _ _ _ _ c.requires.proves

pub returns : goal.returns
returns c x y p = concluded _ _ _ _ _ p c.concluded.ensures.here c.concluded.ensures.statement c.concluded.ensures.fine
