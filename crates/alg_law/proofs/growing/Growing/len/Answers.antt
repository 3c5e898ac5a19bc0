use Rattle.std.proofs.Common.{subst}
use Rattle.alg_law.specs.Lawful.{IsLawful}
use Rattle.alg_law.proofs.LawfulPush.{IsLawful-well_formed}
use Rattle.alg_law.proofs.growing.Growing.len.Goals as goal

pub returns-clause-lawful : goal.returns-clause-lawful
returns-clause-lawful c = subst IsLawful c.self.view_is (IsLawful-well_formed _ c.self.invariant.well_formed)
