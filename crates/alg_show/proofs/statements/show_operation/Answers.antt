use Rattle.alg_show.proofs.Turns.{operation_turn}
use Rattle.alg_show.proofs.statements.show_operation.Goals as goal

pub returns : goal.returns
returns c ds bytes =
    operation_turn ds _ _ _ _ _ bytes _ _ _ _ _ _ _ c.requires.written c.argument.ensures.there c.argument-2.ensures.there c.in_ok-left.ensures c.in_ok-right.ensures c.in_ok-add.ensures c.in_ok-add-2.ensures c.in_ok-add-3.ensures
