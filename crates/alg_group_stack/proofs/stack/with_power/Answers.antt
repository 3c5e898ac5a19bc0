use Rattle.std.proofs.Common.{ap}
use Rattle.std.proofs.Common.{ℤ}
use Rattle.alg_group_stack.specs.declared.syllable.Syllable.{Syllable}
use Rattle.alg_group_stack.proofs.BitLemmas.{same-bits}
use Rattle.alg_group_stack.proofs.stack.with_power.Goals as goal

pub returns : goal.returns
returns c =
    let f : ℤ → Syllable = λ z. record { atom = c.args.atom; exponent = z; power = c.args.m.power; whole = c.args.m.turns.to } in
    ap f (same-bits c.args.x.exponent c.requires)
