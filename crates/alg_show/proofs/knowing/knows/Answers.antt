use Rattle.alg_show.proofs.Visits.{popped_in, found_now, goes_on, smaller}
use Rattle.alg_show.proofs.knowing.knows.Goals as goal

pub visit-requires : goal.visit-requires
visit-requires c = (popped_in _ _ _ _ c.in-Some.ensures.items c.loop-next.invariant.inside).1

pub returns-then-found : goal.returns-then-found
returns-then-found c = found_now _ _ _ _ _ _ _ c.loop-next.invariant.same c.in-Some.ensures.items c.in_ok-found.ensures c.if-found.true

pub loop-next-smaller : goal.loop-next-smaller
loop-next-smaller c = smaller _ _ _ _ _ _ c.in-Some.ensures.items c.in_ok-found.ensures

pub loop-next-preserved : goal.loop-next-preserved
loop-next-preserved c = record {
  same = goes_on _ _ _ _ _ _ _ c.loop-next.invariant.same c.in-Some.ensures.items c.in_ok-found.ensures c.if-found.false;
  inside = c.in_ok-found.ensures.inside (popped_in _ _ _ _ c.in-Some.ensures.items c.loop-next.invariant.inside).0;
}
