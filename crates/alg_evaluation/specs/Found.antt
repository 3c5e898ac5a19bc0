-- What is found of a tree: its value, and rewritings to numerals.
use Rattle.std.specs.Prelude.{◌≡◌, pos, Bool, false, List, [], ◌∷◌, Option, Some, None, ⊤}
use Rattle.alg_terms.specs.declared.sorts.Sort.{Sort}
use Rattle.alg_terms.specs.declared.symbols.Sym.{Sym}
use Rattle.alg_terms.specs.Tree.{Tree, sort_of_tree}
use Rattle.alg_num.specs.Fraction.{Fraction}
use Rattle.alg_build.specs.Book.{Book}
use Rattle.alg_build.specs.Rewriting.{Stands, Turns}
use Rattle.alg_build.specs.declared.rewriting.Rewriting.{Rewriting}
use Rattle.alg_marks.specs.Walks.{AreAllAt}
use Rattle.alg_values.specs.Setting.{setting}
use Rattle.alg_values.specs.Arithmetic.{whole_number}
use Rattle.alg_values.specs.Values.{value, has_past, with_value}
use Rattle.alg_values.specs.Normal.{normal}
use Rattle.alg_values.specs.declared.value.Value.{Value}
use Rattle.alg_values.specs.declared.value.Value.TheVariants.{Num, Past, Without}
use Rattle.alg_values.specs.Numerals.{signed_tree}
use Rattle.alg_evaluation.specs.declared.found.Found.{Found}
use Rattle.alg_evaluation.specs.declared.found.Kind.{Kind}
use Rattle.alg_evaluation.specs.declared.found.Kind.TheVariants as kind

abbrev pub worth_of : Kind → Fraction → Value
worth_of kind.Num p = Num p
worth_of kind.Past p = Past
worth_of kind.Without p = Without

-- the value that is found
abbrev pub worth : Found → Value
worth f = worth_of f.kind f.value

-- where there is a value, the tree is rewritten to its numeral, with the sign outside
abbrev pub TurnsToNumeral : Book → Sort → Rewriting → Tree → Value → Type 0
TurnsToNumeral b s r t (Num p) = Turns b s r t (signed_tree s p)
TurnsToNumeral b s r t Past = ⊤
TurnsToNumeral b s r t Without = ⊤

-- this is the tree, its value, whether some node of it is past the range, and the tree is rewritten to the one in which
-- every largest part that has a value is a numeral
pub record IsFound (covers : Sym → Bool) (b : Book) (t : Tree) (f : Found) : Type 0 where
  pub stands : Stands b (sort_of_tree t) f.expr t
  pub value : worth f ≡ value (setting b.theory.declarations covers) t
  pub numeral : TurnsToNumeral b (sort_of_tree t) f.by t (worth f)
  pub shown : Turns b (sort_of_tree t) f.shown t (normal (setting b.theory.declarations covers) t)
  pub past : f.past ≡ has_past (setting b.theory.declarations covers) t

abbrev pub nowhere : Rewriting
nowhere = record { to = record { index = 0 }; line = None }

abbrev pub absent : Found
absent = record { expr = record { index = 0 }; kind = kind.Without; value = whole_number (pos 0); by = nowhere; shown = nowhere; past = false }

-- of the trees that are wanted, by the numbers of their ids
abbrev pub AreFound : (Sym → Bool) → Book → List Bool → List Found → Type 0
AreFound covers b wanted found = AreAllAt (IsFound covers) absent b wanted found

-- of each of these trees
abbrev pub AllFound : (Sym → Bool) → Book → List Tree → List Found → Type 0
AllFound covers b [] [] = ⊤
AllFound covers b [] (f ∷ fs) = ⊥
AllFound covers b (t ∷ ts) [] = ⊥
AllFound covers b (t ∷ ts) (f ∷ fs) = IsFound covers b t f × AllFound covers b ts fs

-- the values, if each has one
abbrev pub numbers_of : List Found → Option (List Fraction)
numbers_of [] = Some []
numbers_of (f ∷ fs) = with_value (worth f) (numbers_of fs)
