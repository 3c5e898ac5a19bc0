use Rattle.alg_kernel.proofs.FillingLemmas.{sides-filled}
use Rattle.alg_kernel.proofs.filling.fill.Goals as goal

pub returns-clause-filled : goal.returns-clause-filled
returns-clause-filled c = λ ds.
    sides-filled ds c.args.arena.now c.build_all.new.arena c.take_top.new.arena c.take_top-2.new.arena c.args.pattern.now c.args.letters.now c.args.sort c.args.with.now c.in_ok-stack.stack.items c.take_top.new.stack.items c.take_top-2.new.stack.items c.in_ok-lhs.lhs c.in_ok-rhs.rhs c.joined.result
    (c.in_ok-stack.ensures.built ds) (c.in_ok-lhs.ensures.taken ds) (c.in_ok-rhs.ensures.taken ds) c.take_top-2.ensures.keeps (c.joined.ensures ds)
