use Rattle.alg_horner.proofs.Exponents.{sound_sum, sound_more}
use Rattle.alg_horner.proofs.Normal.{join_zero_of, join_multiple_of}
use Rattle.alg_sums.specs.Rational.{rational}
use Rattle.std.proofs.Common.{rules}
use Rattle.alg_horner.proofs.form.Horner.join.Goals as goal

pub returns-then-is_zero : goal.returns-then-is_zero
returns-then-is_zero g c = join_zero_of rational c.args.inner c.args.power c.args.rest c.in_ok-form.form (c.is_zero.ensures.0 (search rules)) c.in_ok-form.ensures

pub returns-in_ok-form-in-Sum : goal.returns-in_ok-form-in-Sum
returns-in_ok-form-in-Sum g c = join_multiple_of rational c.in-Sum.inner c.in-Sum.more c.args.power c.args.rest c.args.inner c.in-Sum._none c.in_ok-form-in-Sum.form c.in-Sum.ensures (c.is_multiple.ensures.0 (search rules)) c.in_ok-form-in-Sum.ensures

pub sum-requires : goal.sum-requires
sum-requires g c = sound_sum rational c.args.inner c.args.power c.args.rest c.requires.power (λ e. let t = c.is_zero.ensures.1 e in search (rules, t)) (λ m. let t = c.is_multiple.ensures.1 m in search (rules, t)) c.told.ensures c.told-2.ensures c.requires.exponent c.requires.atoms

pub sum-requires-in-Sum : goal.sum-requires-in-Sum
sum-requires-in-Sum g c = sound_more rational c.in-Sum.inner c.in-Sum.more c.args.power c.in-Sum._none c.args.rest c.args.inner c.in-Sum.ensures c.told.ensures c.told-2.ensures c.requires.exponent c.requires.atoms
