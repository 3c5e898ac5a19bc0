use Rattle.std.proofs.Common.{refl}
use Rattle.alg_show.proofs.Turns.{argument_turn, no_argument}
use Rattle.alg_show.proofs.statements.show_arguments.Goals as goal

pub returns-in_ok-add-in-Some-2 : goal.returns-in_ok-add-in-Some-2
returns-in_ok-add-in-Some-2 c ds =
    argument_turn ds _ _ _ _ _ _ _ _ _ _ _ _ c.in-Some.is c.argument.ensures.there c.requires refl c.in_ok-write-in-Some.ensures c.in_ok-add-in-Some.ensures c.in_ok-add-in-Some-2.ensures

pub returns-in-None : goal.returns-in-None
returns-in-None c ds = no_argument ds _ _ _ _ _ _ _ c.in-None.is c.argument.ensures.there
