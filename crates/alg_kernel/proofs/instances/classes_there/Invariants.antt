use Rattle.std.proofs.Common.{◌≡◌, drop}
use Rattle.alg_proof.specs.Instances.{class_meets_all}
use Rattle.alg_kernel.proofs.instances.classes_there.Given as goal

abbrev pub invariant-loop-need : goal.invariant-loop-need
invariant-loop-need l = class_meets_all l.base l.sort (drop l.need-index l.needs) ≡ class_meets_all l.base l.sort l.needs
