use Rattle.std.proofs.Common.{◌≡◌, ◌<◌, ◌≤◌, ◌-◌, pos}
use Rattle.alg_terms.specs.declared.sorts.Sort.TheVariants.{Nat}
use Rattle.alg_terms.specs.Tree.{Lit}
use Rattle.alg_build.specs.Book.{Grows}
use Rattle.alg_build.specs.Rewriting.{Turns}
use Rattle.alg_rows.specs.Operations.{power_tree}
use Rattle.alg_group_words.specs.Syllables.{raised_runs}
use Rattle.alg_group_stack.specs.Words.{IsWord, pairs_of, word_tree}
use Rattle.alg_group_spelling.proofs.raising.raise_by_products.Given as goal

abbrev pub invariant-loop-m : goal.invariant-loop-m
invariant-loop-m l = record {
  some : 0 < l.m;
  within : l.m ≤ l.n;
  grows : Grows l.fn.cx l.cx;
  word : IsWord l.cx l.h.sort l.word.items;
  pairs : pairs_of l.cx l.word.items ≡ raised_runs (pairs_of l.fn.cx l.w) (pos l.m);
  turns : Turns l.cx l.h.sort l.turns (power_tree l.h.sort (word_tree l.h.sort (pairs_of l.fn.cx l.w)) (Lit Nat l.m)) (word_tree l.h.sort (pairs_of l.cx l.word.items));
}

abbrev pub decreases-loop-m : goal.decreases-loop-m
decreases-loop-m l = l.n - l.m
