use Rattle.std.proofs.Common.{ap, ℤ}
use Rattle.alg_group_stack.specs.declared.syllable.Syllable.{Syllable}
use Rattle.alg_group_spelling.proofs.RaiseLemmas.{product-bits}
use Rattle.alg_group_spelling.proofs.raising.scaled.Goals as goal

pub returns : goal.returns
returns c =
    let f : ℤ → Syllable = λ z. record { atom = c.args.x.atom; exponent = z; power = c.args.m.power; whole = c.args.m.turns.to } in
    ap f (product-bits c.args.x.exponent c.args.z.now c.requires.first c.requires.second c.requires.small)
