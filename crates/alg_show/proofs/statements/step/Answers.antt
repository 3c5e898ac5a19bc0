use Rattle.std.proofs.Common.{refl, arith}
use Rattle.alg_show.specs.declared.tasks.Task.TheVariants.{Close, Inverse, Zero, Operator, Relation}
use Rattle.alg_show.proofs.Turns.{text_turn}
use Rattle.alg_show.proofs.statements.step.Goals as goal

pub returns-in_ok-write-in-Close : goal.returns-in_ok-write-in-Close
returns-in_ok-write-in-Close c = text_turn _ _ _ _ _ _ _ Close c.in-Close.is refl c.in_ok-write-in-Close.ensures (omega arith) tt

pub returns-in_ok-write-in-Inverse : goal.returns-in_ok-write-in-Inverse
returns-in_ok-write-in-Inverse c = text_turn _ _ _ _ _ _ _ Inverse c.in-Inverse.is refl c.in_ok-write-in-Inverse.ensures (omega arith) tt

pub returns-in_ok-write_number-in-Zero : goal.returns-in_ok-write_number-in-Zero
returns-in_ok-write_number-in-Zero c = text_turn _ _ _ _ _ _ _ Zero c.in-Zero.is refl c.in_ok-write_number-in-Zero.ensures (omega arith) tt

pub returns-in_ok-write-in-Operator : goal.returns-in_ok-write-in-Operator
returns-in_ok-write-in-Operator c = text_turn _ _ _ _ _ _ _ (Operator c.in-Operator.operator) c.in-Operator.is c.operator_text.ensures c.in_ok-write-in-Operator.ensures (omega arith) tt

pub returns-in_ok-write-in-Relation : goal.returns-in_ok-write-in-Relation
returns-in_ok-write-in-Relation c = text_turn _ _ _ _ _ _ _ (Relation c.in-Relation.rel) c.in-Relation.is c.relation_text.ensures c.in_ok-write-in-Relation.ensures (omega arith) tt
