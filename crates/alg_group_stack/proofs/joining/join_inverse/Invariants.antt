use Rattle.std.proofs.Common.{◌≡◌, ◌≤◌, length, take, drop}
use Rattle.alg_terms.specs.Tree.{product_tree}
use Rattle.alg_build.specs.Book.{Grows}
use Rattle.alg_build.specs.Rewriting.{Turns}
use Rattle.alg_rows.specs.Operations.{inverse_tree}
use Rattle.alg_group_words.specs.Syllables.{joined_inverse}
use Rattle.alg_group_stack.specs.Words.{IsWord, pairs_of, word_tree}
use Rattle.alg_group_stack.proofs.joining.join_inverse.Given as goal

abbrev pub invariant-loop-i : goal.invariant-loop-i
invariant-loop-i l = record {
  within : l.i ≤ length l.w;
  grows : Grows l.fn.cx l.cx;
  word : IsWord l.cx l.h.sort l.stack.items;
  pairs : pairs_of l.cx l.stack.items ≡ joined_inverse (pairs_of l.fn.cx l.fn.stack.items) (pairs_of l.fn.cx (drop l.i l.w));
  turns : Turns l.cx l.h.sort l.turns (product_tree l.h.sort (word_tree l.h.sort (pairs_of l.fn.cx l.fn.stack.items)) (inverse_tree l.h.sort (word_tree l.h.sort (pairs_of l.fn.cx l.w)))) (product_tree l.h.sort (word_tree l.h.sort (pairs_of l.cx l.stack.items)) (inverse_tree l.h.sort (word_tree l.h.sort (pairs_of l.fn.cx (take l.i l.w)))));
}

abbrev pub decreases-loop-i : goal.decreases-loop-i
decreases-loop-i l = l.i
