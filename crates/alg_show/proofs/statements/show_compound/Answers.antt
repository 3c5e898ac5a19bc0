use Rattle.std.proofs.Common.{ap, ◌∙◌, ◌++◌, ◌∷◌, []}
use Rattle.alg_show.proofs.Turns.{negation_turn, inverse_turn, shared_turn, own_turn}
use Rattle.alg_show.proofs.statements.show_compound.Goals as goal

pub returns-in_ok-add-in-Negation : goal.returns-in_ok-add-in-Negation
returns-in_ok-add-in-Negation c =
    negation_turn _ _ _ _ _ _ _ _ _ _ _ c.requires.symbol c.notation_of.ensures c.in-Negation.is c.argument.ensures.there c.in_ok-write-in-Negation.ensures (c.in_ok-add-in-Negation.ensures ∙ ap (λ t. c.args.tasks.now.items ++ t ∷ []) c.part.ensures)

pub returns-in_ok-add-in-Inverse-2 : goal.returns-in_ok-add-in-Inverse-2
returns-in_ok-add-in-Inverse-2 c =
    inverse_turn _ _ _ _ _ _ _ _ _ _ _ c.requires.symbol c.notation_of.ensures c.in-Inverse.is c.argument-in-Inverse.ensures.there c.in_ok-add-in-Inverse.ensures (c.in_ok-add-in-Inverse-2.ensures ∙ ap (λ t. c.add-in-Inverse.new.tasks.items ++ t ∷ []) c.part-in-Inverse.ensures)

pub returns-in_ok-show_function-in-Shared : goal.returns-in_ok-show_function-in-Shared
returns-in_ok-show_function-in-Shared c =
    shared_turn _ _ _ _ _ _ _ _ _ _ c.requires.symbol c.requires.here c.notation_of.ensures c.in-Shared.is c.in_ok-show_function-in-Shared.ensures

pub returns-in_ok-show_function-in-Own : goal.returns-in_ok-show_function-in-Own
returns-in_ok-show_function-in-Own c =
    own_turn _ _ _ _ _ _ _ _ _ _ c.requires.symbol c.requires.here c.notation_of.ensures c.in-Own.is c.in_ok-show_function-in-Own.ensures
