-- How the word of a tree is held, and its tree inside of a proof.
use Rattle.std.specs.Prelude.{◌≡◌, ◌+◌, ◌≤◌, ◌^◌, ℤ, pos, true, false, List, [], ◌∷◌, map, unsigned_abs, ⊤}
use Rattle.std.specs.Ordering.{int_eq}
use Rattle.alg_terms.specs.declared.sorts.Sort.{Sort}
use Rattle.alg_terms.specs.declared.sorts.Sort.TheVariants.{Int}
use Rattle.alg_terms.specs.Tree.{Tree, Lit, product_tree}
use Rattle.alg_num.specs.Range.{InRange}
use Rattle.alg_expr.specs.Ids.{tree_of}
use Rattle.alg_law.specs.declared.classes.Class.TheVariants.{Group}
use Rattle.alg_law.specs.declared.marks.Mark.TheVariants.{Good}
use Rattle.alg_law.specs.Having.{has_class}
use Rattle.alg_law.specs.WellSorted.{sort_mark}
use Rattle.alg_lemma.specs.Library.{HoldsLibrary}
use Rattle.alg_build.specs.Book.{Book}
use Rattle.alg_build.specs.Rewriting.{Stands}
use Rattle.alg_rows.specs.Operations.{integer_power_tree}
use Rattle.alg_numerals.specs.WholeTree.{whole_tree}
use Rattle.alg_group_words.specs.Syllables.{total_size}
use Rattle.alg_group_stack.specs.declared.syllable.Syllable.{Syllable}
use Rattle.alg_group_stack.specs.declared.syllable.Home.{Home}

-- the sort is a group, and its literal 1 stands
pub record IsHome (b : Book) (h : Home) : Type 0 where
  pub known : sort_mark b.theory.declarations h.sort ≡ Good
  pub group : has_class b.theory.declarations h.sort Group ≡ true
  pub library : HoldsLibrary b.theory.lemmas
  pub one : Stands b h.sort h.one (Lit h.sort 1)

-- the power of an atom by a numeral
abbrev pub syllable_tree : Sort → Tree × ℤ → Tree
syllable_tree s p = integer_power_tree s p.0 (whole_tree Int p.1)

-- a tree times the powers, grouped to the left
abbrev pub times_all : Sort → Tree → List (Tree × ℤ) → Tree
times_all s t [] = t
times_all s t (p ∷ ps) = times_all s (product_tree s t (syllable_tree s p)) ps

abbrev pub word_tree : Sort → List (Tree × ℤ) → Tree
word_tree s ps = times_all s (Lit s 1) ps

-- the atom and the exponent of a syllable, and those of a word
abbrev pub pair_of : Book → Syllable → Tree × ℤ
pair_of b x = (tree_of b.trees x.atom, x.exponent)

abbrev pub pairs_of : Book → List Syllable → List (Tree × ℤ)
pairs_of b xs = map (pair_of b) xs

-- the power of a syllable is that of its atom, and its exponent isn't 0
pub record IsPower (b : Book) (s : Sort) (x : Syllable) : Type 0 where
  pub atom : Stands b s x.atom (tree_of b.trees x.atom)
  pub some : int_eq x.exponent (pos 0) ≡ false
  pub small : InRange x.exponent
  pub power : Stands b s x.power (syllable_tree s (pair_of b x))

-- the word up to a syllable is the tree before it times its power
pub record IsSyllable (b : Book) (s : Sort) (before : Tree) (x : Syllable) : Type 0 where
  pub power : IsPower b s x
  pub whole : Stands b s x.whole (product_tree s before (syllable_tree s (pair_of b x)))

abbrev pub Holds : Book → Sort → Tree → List Syllable → Type 0
Holds b s t [] = ⊤
Holds b s t (x ∷ xs) = IsSyllable b s t x × Holds b s (product_tree s t (syllable_tree s (pair_of b x))) xs

-- each syllable has its power and the word up to it
pub record IsWord (b : Book) (s : Sort) (xs : List Syllable) : Type 0 where
  pub holds : Holds b s (Lit s 1) xs

-- the sum of the exponents' absolute values is far from the end of their type
pub record HasRoom (b : Book) (xs : List Syllable) (z : ℤ) : Type 0 where
  pub small : total_size (pairs_of b xs) + unsigned_abs z ≤ 2 ^ 126

-- words whose exponents together are far from the end of their type
pub record HaveRoom (b : Book) (xs ys : List Syllable) : Type 0 where
  pub small : total_size (pairs_of b xs) + total_size (pairs_of b ys) ≤ 2 ^ 126
