use Rattle.std.proofs.Common.{◌≡◌, drop}
use Rattle.alg_proof.specs.Instances.{sort_meets_all}
use Rattle.alg_kernel.proofs.instances.sort_allowed.Given as goal

abbrev pub invariant-loop-need : goal.invariant-loop-need
invariant-loop-need l = sort_meets_all l.sort (drop l.need-index l.needs) ≡ sort_meets_all l.sort l.needs
