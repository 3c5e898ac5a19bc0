use Rattle.std.proofs.Common.{ℕ, ◌≤◌}
use Rattle.alg_sums.specs.Rational.{rational}
use Rattle.alg_horner.specs.Form.{exponent, size}
use Rattle.horner_runs.proofs.sum_of_atoms.Given as goal

abbrev pub invariant-loop-i : goal.invariant-loop-i
invariant-loop-i g l = record { exponents : (n : ℕ) → exponent n l.form ≤ 1; size : size rational 1 l.form ≤ l.i }
