use Rattle.std.proofs.Common.{◌≡◌, ◌++◌, ◌∷◌, List, length}
use Rattle.alg_lex.specs.Items.{Item}
use Rattle.alg_lex.specs.Answer.{item_of}
use Rattle.alg_commands.specs.Pieces.{Keeps}
use Rattle.alg_commands.specs.Cuts.{NoneBegins}
use Rattle.alg_commands.proofs.pieces.pass.Given as goal

abbrev pub invariant-items : goal.invariant-items
invariant-items l = record {
  items : List Item;
  passed : l.fn.lexer ≡ items ++ l.lexer;
  none : NoneBegins items;
  keeps : Keeps (item_of l.fn.first ∷ items) l.piece;
}

abbrev pub decreases-items : goal.decreases-items
decreases-items l = length l.lexer
