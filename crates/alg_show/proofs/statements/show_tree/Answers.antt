use Rattle.std.proofs.Common.{ap, ◌∙◌, ◌++◌, string_bytes}
use Rattle.alg_show.proofs.Turns.{number_turn, variable_turn}
use Rattle.alg_show.proofs.statements.show_tree.Goals as goal

pub returns-in_ok-show_number-in-Lit : goal.returns-in_ok-show_number-in-Lit
returns-in_ok-show_number-in-Lit c =
    number_turn _ _ _ _ _ _ _ _ _ c.in-Lit.ensures.shows c.in-Lit.ensures.small c.in_ok-show_number-in-Lit.ensures

pub returns-in_ok-write-in-Var : goal.returns-in_ok-write-in-Var
returns-in_ok-write-in-Var c =
    variable_turn _ _ _ _ _ _ _ _ _ c.in-Var.ensures.shows (c.in_ok-write-in-Var.ensures ∙ ap (λ x. string_bytes c.args.out.now ++ x) c.name_at.ensures)
