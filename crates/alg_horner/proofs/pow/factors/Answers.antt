use Rattle.std.proofs.Common.{◌-◌, ◌/◌, ◌%◌, arith}
use Rattle.alg_horner.proofs.pow.factors.Goals as goal

pub returns-then-n-gt128 : goal.returns-then-n-gt128
returns-then-n-gt128 c = record { below = omega arith; same = λ l. absurd (omega arith); least = λ l. omega arith; pairs = (c.args.n - (128 - c.args.n % 2)) / 2; even = omega arith }

pub returns-else-n-gt128 : goal.returns-else-n-gt128
returns-else-n-gt128 c = record { below = omega arith; same = λ l. omega arith; least = λ l. absurd (omega arith); pairs = 0; even = omega arith }
