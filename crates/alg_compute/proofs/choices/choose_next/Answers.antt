use Rattle.std.proofs.Common.{add-one}
use Rattle.alg_compute.proofs.Answering.{same_number}
use Rattle.alg_compute.proofs.Choosing.{choose-step, divisor_positive, quotient_positive}
use Rattle.alg_compute.proofs.choices.choose_next.Goals as goal

pub nonzero_div-divisor : goal.nonzero_div-divisor
nonzero_div-divisor c = divisor_positive c.args.value c.args.k c.gcd-common.result (rw add-one at c.gcd-common.ensures)

pub nonzero_div-value : goal.nonzero_div-value
nonzero_div-value c = divisor_positive c.args.value c.args.k c.gcd-common.result (rw add-one at c.gcd-common.ensures)

pub nonzero_div-n : goal.nonzero_div-n
nonzero_div-n c = rw add-one (quotient_positive c.args.value c.args.k c.gcd-common.result (rw add-one at c.gcd-common.ensures))

pub returns : goal.returns
returns c = same_number c.product.result _ _ (rw add-one (choose-step c.args.n c.args.k c.args.value c.gcd-common.result c.requires.value (rw add-one at c.gcd-common.ensures))) c.product.ensures
