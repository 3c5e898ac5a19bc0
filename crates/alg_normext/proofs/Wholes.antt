-- The facts on calls, for search.
use Rattle.alg_build.proofs.Lines.{grows-self, grows-then}
use Rattle.alg_normext.proofs.CallTrees.{compound, is-worth, valued, value-over}

pub ruleset wholes = (grows-self, grows-then, compound, is-worth, valued, value-over)
