-- What is shown of words, of their syllables and of normal forms, where value gives the integers that exponents denote.
use Rattle.std.specs.Prelude.{◌≡◌, ◌≤◌, true, List, length, ◌↔◌, Option, ℤ}
use Rattle.alg_terms.specs.declared.sorts.Sort.{Sort}
use Rattle.alg_terms.specs.Tree.{Tree, sort_of_tree}
use Rattle.alg_law.specs.declared.classes.Class.TheVariants.{Group}
use Rattle.alg_law.specs.Declarations.{Declaration}
use Rattle.alg_law.specs.Having.{has_class}
use Rattle.alg_law.specs.WellSorted.{IsWellSorted}
use Rattle.alg_group_words.specs.Word.{Letter, CancelsTo, IsReduced, reduced}
use Rattle.alg_group_words.specs.Letters.{letters, word, weight}
use Rattle.alg_group_words.specs.Syllables.{spelled, syllables, total_size}
use Rattle.alg_group_words.specs.WordTree.{normal_form, HasNumerals}

-- wherever the cancelling begins and however it goes on, it ends at the same word
abbrev pub EveryOrderEndsAtOneWord : Type 0
EveryOrderEndsAtOneWord = (w u v : List Letter) → CancelsTo w u → IsReduced u → CancelsTo w v → IsReduced v → u ≡ v

-- the reduced word is reached by cancelling, and nothing more cancels
abbrev pub WordsAreReduced : Type 0
WordsAreReduced = (w : List Letter) → CancelsTo w (reduced w) × IsReduced (reduced w)

-- the letters of the syllables are the word, and trees have one word exactly where they have one list of syllables
abbrev pub SyllablesDecide : Type 0
SyllablesDecide = (value : Tree → Option ℤ) (t u : Tree) → (spelled (syllables value t) ≡ word value t) × ((word value t ≡ word value u) ↔ (syllables value t ≡ syllables value u))

-- a normal form is its own normal form
abbrev pub NormalFormsStay : Type 0
NormalFormsStay = (value : Tree → Option ℤ) (s : Sort) (t : Tree) → HasNumerals value → normal_form value s (normal_form value s t) ≡ normal_form value s t

-- it has the word of its tree
abbrev pub NormalFormsDenote : Type 0
NormalFormsDenote = (value : Tree → Option ℤ) (s : Sort) (t : Tree) → HasNumerals value → word value (normal_form value s t) ≡ word value t

-- trees have one word exactly where they have one normal form
abbrev pub NormalFormsDecide : Type 0
NormalFormsDecide = (value : Tree → Option ℤ) (s : Sort) (t u : Tree) → HasNumerals value → (word value t ≡ word value u) ↔ (normal_form value s t ≡ normal_form value s u)

-- in a group it is a well sorted tree of the same sort
abbrev pub NormalFormsAreWellSorted : Type 0
NormalFormsAreWellSorted = (ds : List Declaration) (value : Tree → Option ℤ) (t : Tree) → has_class ds (sort_of_tree t) Group ≡ true → IsWellSorted ds t → IsWellSorted ds (normal_form value (sort_of_tree t) t) × (sort_of_tree (normal_form value (sort_of_tree t) t) ≡ sort_of_tree t)

-- the weight is the number of letters before cancelling
abbrev pub WeightsCount : Type 0
WeightsCount = (value : Tree → Option ℤ) (t : Tree) → length (letters value t) ≡ weight value t

-- the absolute values of the exponents sum to at most the weight
abbrev pub ExponentsAreBounded : Type 0
ExponentsAreBounded = (value : Tree → Option ℤ) (t : Tree) → total_size (syllables value t) ≤ weight value t
