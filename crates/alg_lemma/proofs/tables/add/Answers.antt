use Rattle.alg_proof.specs.LemmaRows.{rows_of}
use Rattle.alg_lemma.proofs.Following.{joining-admissible, joining-new}
use Rattle.alg_lemma.proofs.tables.add.Goals as goal

pub push-requires-clause-admissible : goal.push-requires-clause-admissible
push-requires-clause-admissible c = joining-admissible (rows_of c.args.table.now) c.args.lemma.now c.len-known.ensures.admissible c.requires

pub push-requires-clause-new : goal.push-requires-clause-new
push-requires-clause-new c = joining-new (rows_of c.args.table.now) c.args.lemma.now c.requires
