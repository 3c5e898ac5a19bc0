use Rattle.std.proofs.Common.{◌<◌, ◌≤◌, ◌-◌, length, take}
use Rattle.alg_build.specs.Book.{Grows}
use Rattle.alg_build.specs.Rewriting.{Turns}
use Rattle.alg_group_words.specs.WordTree.{normal_tree}
use Rattle.alg_group_stack.specs.Words.{pairs_of, word_tree}
use Rattle.alg_group_spelling.proofs.normal.normal.Given as goal

abbrev pub invariant-loop-i : goal.invariant-loop-i
invariant-loop-i l = record {
  some : 0 < l.i;
  within : l.i ≤ length l.w;
  grows : Grows l.fn.cx l.cx;
  turns : Turns l.cx l.h.sort l.turns (word_tree l.h.sort (pairs_of l.fn.cx (take l.i l.w))) (normal_tree l.h.sort (pairs_of l.fn.cx (take l.i l.w)));
}

abbrev pub decreases-loop-i : goal.decreases-loop-i
decreases-loop-i l = length l.w - l.i
