use Rattle.alg_kernel.proofs.FillingLemmas.{zero-put}
use Rattle.alg_kernel.proofs.filling.over_top.Goals as goal

pub returns-in_ok-none-in-0-clause-put : goal.returns-in_ok-none-in-0-clause-put
returns-in_ok-none-in-0-clause-put c = λ ds ts h. zero-put ds c.args.arena.now c.apply.new.arena c.apply.ensures.keeps c.args.sym c.args.sort ts c.in_ok-none-in-0.none c.args.stack.now.items c.places.result.now c.places.ensures c.in-0.is (c.in_ok-none-in-0.ensures.made ds) h
