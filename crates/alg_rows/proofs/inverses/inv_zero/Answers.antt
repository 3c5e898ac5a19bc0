use Rattle.std.proofs.Common.{refl}
use Rattle.alg_law.proofs.Named.{inv_zero-named}
use Rattle.alg_build.proofs.RowFacts.{none_fills}
use Rattle.alg_rows.proofs.inverses.inv_zero.Goals as goal

pub by_law-requires-clause-named : goal.by_law-requires-clause-named
by_law-requires-clause-named c = inv_zero-named

pub by_law-requires-clause-fills : goal.by_law-requires-clause-fills
by_law-requires-clause-fills c = none_fills _ _ _ (rw c.requires.field refl) refl c.requires.known

pub by_law-requires-clause-premises : goal.by_law-requires-clause-premises
by_law-requires-clause-premises c = refl
