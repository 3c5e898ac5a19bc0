use Rattle.std.proofs.Common.{sym, take}
use Rattle.alg_law.proofs.PrefixLemmas.{none_given}
use Rattle.alg_law.proofs.growing.Growing.gives.Goals as goal

pub returns-in-Nat : goal.returns-in-Nat
returns-in-Nat c = rw (c.in-Nat.is) (sym (none_given (take c.args.prefix c.args.self.now) c.args.class).0)

pub returns-in-Int : goal.returns-in-Int
returns-in-Int c = rw (c.in-Int.is) (sym (none_given (take c.args.prefix c.args.self.now) c.args.class).1)

pub returns-in-Rat : goal.returns-in-Rat
returns-in-Rat c = rw (c.in-Rat.is) (sym (none_given (take c.args.prefix c.args.self.now) c.args.class).2)
