use Rattle.alg_build.proofs.ClosingLemmas.{relates-same}
use Rattle.alg_build.proofs.closing.as_it_is.Goals as goal

pub returns : goal.returns
returns c = relates-same _ _ _ _ _ c.requires.relates c.requires.none.0 c.requires.none.1
