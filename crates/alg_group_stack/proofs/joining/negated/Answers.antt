use Rattle.std.proofs.Common.{ap}
use Rattle.std.proofs.Common.{ℤ}
use Rattle.alg_group_stack.specs.declared.syllable.Syllable.{Syllable}
use Rattle.alg_group_stack.proofs.BitLemmas.{minus-bits}
use Rattle.alg_group_stack.proofs.joining.negated.Goals as goal

pub returns : goal.returns
returns c =
    let f : ℤ → Syllable = λ z. record { atom = c.args.x.atom; exponent = z; power = c.args.power; whole = c.args.x.whole } in
    ap f (minus-bits c.args.x.exponent c.requires)
