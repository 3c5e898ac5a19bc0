use Rattle.std.proofs.Common.{refl}
use Rattle.alg_law.proofs.Named.{add_zero-named}
use Rattle.alg_build.proofs.RowFacts.{one_fills}
use Rattle.alg_rows.proofs.sums.add_zero.Goals as goal

pub by_law-requires-clause-named : goal.by_law-requires-clause-named
by_law-requires-clause-named c = add_zero-named

pub by_law-requires-clause-fills : goal.by_law-requires-clause-fills
by_law-requires-clause-fills c = one_fills _ _ _ (rw c.requires.add_monoid refl) _ refl c.requires.a_stands.sorted c.requires.a_stands.sort

pub by_law-requires-clause-premises : goal.by_law-requires-clause-premises
by_law-requires-clause-premises c = refl
