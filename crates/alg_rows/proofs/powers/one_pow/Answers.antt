use Rattle.std.proofs.Common.{refl}
use Rattle.alg_law.proofs.Named.{one_pow-named}
use Rattle.alg_build.proofs.RowFacts.{fill-n}
use Rattle.alg_rows.proofs.powers.one_pow.Goals as goal

pub by_law-requires-clause-named : goal.by_law-requires-clause-named
by_law-requires-clause-named c = one_pow-named

pub by_law-requires-clause-fills : goal.by_law-requires-clause-fills
by_law-requires-clause-fills c = fill-n _ _ _ (rw c.requires.monoid refl) _ refl c.requires.known c.requires.n_stands.sorted c.requires.n_stands.sort

pub by_law-requires-clause-premises : goal.by_law-requires-clause-premises
by_law-requires-clause-premises c = refl
