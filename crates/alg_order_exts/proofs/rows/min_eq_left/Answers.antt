use Rattle.std.proofs.Common.{refl}
use Rattle.alg_law.proofs.Named.{min_eq_left-named}
use Rattle.alg_build.proofs.RowFacts.{two_fill}
use Rattle.alg_order_exts.proofs.rows.min_eq_left.Goals as goal

pub by_law-requires-clause-named : goal.by_law-requires-clause-named
by_law-requires-clause-named c = min_eq_left-named

pub by_law-requires-clause-fills : goal.by_law-requires-clause-fills
by_law-requires-clause-fills c = two_fill _ _ _ (rw c.requires.linear_order refl) _ _ refl c.requires.a_stands.sorted c.requires.b_stands.sorted c.requires.a_stands.sort c.requires.b_stands.sort
