use Rattle.std.proofs.Common.{◌≡◌, take}
use Rattle.alg_terms.specs.Tree.{product_tree}
use Rattle.alg_build.specs.Book.{Grows}
use Rattle.alg_build.specs.Rewriting.{Stands, Turns}
use Rattle.alg_group_words.specs.Syllables.{joined}
use Rattle.alg_group_stack.specs.Words.{IsWord, pairs_of, word_tree}
use Rattle.alg_group_stack.proofs.joining.join.Given as goal

abbrev pub invariant-loop-x : goal.invariant-loop-x
invariant-loop-x l = record {
  grows : Grows l.fn.cx l.cx;
  word : IsWord l.cx l.h.sort l.stack.items;
  pairs : pairs_of l.cx l.stack.items ≡ joined (pairs_of l.fn.cx l.fn.stack.items) (pairs_of l.fn.cx (take l.x-index l.w));
  left : Stands l.cx l.h.sort l.left (word_tree l.h.sort (pairs_of l.fn.cx l.fn.stack.items));
  before : Stands l.cx l.h.sort l.before (word_tree l.h.sort (pairs_of l.fn.cx (take l.x-index l.w)));
  turns : Turns l.cx l.h.sort l.turns (product_tree l.h.sort (word_tree l.h.sort (pairs_of l.fn.cx l.fn.stack.items)) (word_tree l.h.sort (pairs_of l.fn.cx (take l.x-index l.w)))) (word_tree l.h.sort (pairs_of l.cx l.stack.items));
}
