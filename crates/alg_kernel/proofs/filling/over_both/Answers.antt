use Rattle.alg_kernel.proofs.FillingLemmas.{two-put}
use Rattle.alg_kernel.proofs.filling.over_both.Goals as goal

pub returns-in_ok-two-in-Some-pop-clause-put : goal.returns-in_ok-two-in-Some-pop-clause-put
returns-in_ok-two-in-Some-pop-clause-put c = λ ds ts h. two-put ds c.args.arena.now c.over_two.new.arena c.over_two.ensures.keeps c.args.sym c.args.sort ts c.in_ok-two-in-Some-pop.two c.args.stack.now.items c.pop.new.self.items c.pop-in-Some.new.self.items c.in-Some.a c.in-Some-pop.b c.in-Some.ensures.items c.in-Some-pop.ensures.items (c.in_ok-two-in-Some-pop.ensures.made ds) h
