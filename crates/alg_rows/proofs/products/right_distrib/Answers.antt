use Rattle.std.proofs.Common.{refl}
use Rattle.alg_law.proofs.Named.{right_distrib-named}
use Rattle.alg_build.proofs.RowFacts.{three_fill}
use Rattle.alg_rows.proofs.products.right_distrib.Goals as goal

pub by_law-requires-clause-named : goal.by_law-requires-clause-named
by_law-requires-clause-named c = right_distrib-named

pub by_law-requires-clause-fills : goal.by_law-requires-clause-fills
by_law-requires-clause-fills c = three_fill _ _ _ (rw c.requires.semiring refl) _ _ _ refl c.requires.a_stands.sorted c.requires.b_stands.sorted c.requires.c_stands.sorted c.requires.a_stands.sort c.requires.b_stands.sort c.requires.c_stands.sort

pub by_law-requires-clause-premises : goal.by_law-requires-clause-premises
by_law-requires-clause-premises c = refl
