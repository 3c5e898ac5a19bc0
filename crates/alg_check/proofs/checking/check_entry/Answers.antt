use Rattle.alg_check.proofs.Saying.{says_nothing, says_part}
use Rattle.alg_check.proofs.checking.check_entry.Goals as goal

pub returns-in_err-finding-clause-says : goal.returns-in_err-finding-clause-says
returns-in_err-finding-clause-says g c = says_nothing _

pub returns-clause-says : goal.returns-clause-says
returns-clause-says g c = says_part _ _ _ c.say_finding.result c.say_finding.ensures.told
