use Rattle.std.proofs.Common.{refl}
use Rattle.alg_law.proofs.Named.{one_mul-named}
use Rattle.alg_build.proofs.RowFacts.{one_fills}
use Rattle.alg_rows.proofs.products.one_mul.Goals as goal

pub by_law-requires-clause-named : goal.by_law-requires-clause-named
by_law-requires-clause-named c = one_mul-named

pub by_law-requires-clause-fills : goal.by_law-requires-clause-fills
by_law-requires-clause-fills c = one_fills _ _ _ (rw c.requires.monoid refl) _ refl c.requires.a_stands.sorted c.requires.a_stands.sort

pub by_law-requires-clause-premises : goal.by_law-requires-clause-premises
by_law-requires-clause-premises c = refl
