use Rattle.std.proofs.Common.{sym, ◌∙◌}
use Rattle.alg_show.proofs.Turns.{grouped_turn, plain_turn}
use Rattle.alg_show.proofs.statements.show_part.Goals as goal

pub returns-in_ok-show_tree : goal.returns-in_ok-show_tree
returns-in_ok-show_tree c =
    grouped_turn _ _ _ _ _ _ _ _ _ _ _ (sym (c.is_grouped.ensures c.args.base.now c.args.ask) ∙ c.if-is_grouped.true) c.in_ok-write.ensures c.in_ok-add.ensures c.in_ok-show_tree.ensures

pub returns-in_ok-show_tree-2 : goal.returns-in_ok-show_tree-2
returns-in_ok-show_tree-2 c =
    plain_turn _ _ _ _ _ _ _ _ _ (sym (c.is_grouped.ensures c.args.base.now c.args.ask) ∙ c.if-is_grouped.false) c.in_ok-show_tree-2.ensures
