use Rattle.alg_kernel.proofs.FillingLemmas.{one-put}
use Rattle.alg_kernel.proofs.filling.over_first.Goals as goal

pub returns-in_ok-one-in-Some-clause-put : goal.returns-in_ok-one-in-Some-clause-put
returns-in_ok-one-in-Some-clause-put c = λ ds ts h. one-put ds c.args.arena.now c.over_one.new.arena c.over_one.ensures.keeps c.args.sym c.args.sort ts c.in_ok-one-in-Some.one c.args.stack.now.items c.pop.new.self.items c.in-Some.a c.in-Some.ensures.items (c.in_ok-one-in-Some.ensures.made ds) h
