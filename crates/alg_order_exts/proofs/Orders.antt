-- The facts that the lines on order rest on, for search.
use Rattle.alg_build.proofs.Leading.{concludes-grows}
use Rattle.alg_build.proofs.Lines.{grows-self, grows-then}
use Rattle.alg_build.proofs.RowFacts.{grows-class, grows-library}
use Rattle.alg_fractions.proofs.FractionLemmas.{grows-fraction}

pub ruleset orders = (grows-self, grows-then, grows-class, grows-library, grows-fraction, concludes-grows)
