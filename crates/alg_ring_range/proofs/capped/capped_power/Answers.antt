use Rattle.alg_ring_range.proofs.Capping.{small_power, large_power}
use Rattle.alg_ring_range.proofs.capped.capped_power.Goals as goal

pub returns-then-a-lt2 : goal.returns-then-a-lt2
returns-then-a-lt2 c = small_power c.args.a c.args.n c.if-a-lt2.true c.if-n-eq0.false

pub returns-then-n-gt126 : goal.returns-then-n-gt126
returns-then-n-gt126 c = large_power c.args.a c.args.n c.if-a-lt2.false c.if-n-gt126.true
