-- The word of a tree.
use Rattle.alg_terms.specs.declared.sorts.Sort.{Sort}
use Rattle.alg_terms.specs.Tree.{Tree}
use Rattle.alg_build.specs.Book.{Book}
use Rattle.alg_build.specs.Rewriting.{Turns}
use Rattle.alg_group_stack.specs.Words.{IsWord, pairs_of, word_tree}
use Rattle.alg_group_spelling.specs.declared.spelled.Spelled.{Spelled}

-- the tree is rewritten to a word
pub record Spells (b : Book) (s : Sort) (t : Tree) (x : Spelled) : Type 0 where
  pub word : IsWord b s x.word.items
  pub turns : Turns b s x.turns t (word_tree s (pairs_of b x.word.items))
