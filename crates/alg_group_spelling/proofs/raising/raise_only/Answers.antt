use Rattle.alg_group_spelling.proofs.RaiseLemmas.{first-of, small-single}
use Rattle.alg_group_spelling.proofs.raising.raise_only.Goals as goal

pub raise_single-requires-clause-power : goal.raise_single-requires-clause-power
raise_single-requires-clause-power c = (first-of _ _ _ _ (rw c.requires.single at c.requires.word)).power

pub raise_single-requires-clause-small : goal.raise_single-requires-clause-small
raise_single-requires-clause-small c = small-single c.args.cx.now c.args.x c.args.z.now (rw c.requires.single at c.requires.room)

pub returns-clause-pairs : goal.returns-clause-pairs
returns-clause-pairs c = rw c.requires.single c.raise_single.ensures.pairs

pub returns-clause-turns : goal.returns-clause-turns
returns-clause-turns c = rw c.requires.single c.raise_single.ensures.turns
