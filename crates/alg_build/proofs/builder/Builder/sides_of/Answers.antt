use Rattle.alg_build.proofs.CongruenceLemmas.{part_there, sides_none, sides_next}
use Rattle.alg_build.proofs.builder.Builder.sides_of.Goals as goal

pub loop-i-init : goal.loop-i-init
loop-i-init c = rw (c.in_ok-lefts.ensures.items, c.in_ok-rights.ensures.items) (sides_none c.args.self.now)

pub concluded-s-requires : goal.concluded-s-requires
concluded-s-requires c = part_there c.args.self.now c.args.parts.now c.loop-i.i-index _ c.requires c.loop-i-test.true

pub loop-i-preserved : goal.loop-i-preserved
loop-i-preserved c =
    rw (c.in_ok-push.ensures.ok, c.in_ok-push-2.ensures.ok)
    (sides_next c.args.self.now c.args.parts.now c.loop-i.i-index _ c.loop-i.lefts.items c.loop-i.rights.items c.concluded-s.result c.loop-i-test.true c.loop-i.invariant c.concluded-s.ensures.here c.concluded-s.ensures.statement
    c.concluded-s.ensures.fine.statement)
