-- Lines that relate literals, and the trees that they are about.
use Rattle.std.proofs.Common.{◌≡◌, ℕ, ◌+◌, ◌<◌, List, Bool, true, false, nat_eq, nat_lt, refl, arith}
use Rattle.std.specs.Prelude.{not}
use Rattle.std.proofs.lemmas.Bool.Decides.{nat_tests}
use Rattle.alg_terms.specs.declared.sorts.Sort.{Sort}
use Rattle.alg_terms.specs.declared.relations.Rel.{Rel}
use Rattle.alg_terms.specs.declared.relations.Rel.TheVariants.{Ne, Lt, Le}
use Rattle.alg_terms.specs.Tree.{Tree, Lit}
use Rattle.alg_law.specs.declared.classes.Class.TheVariants.{CharZero, IsStrictOrderedRing}
use Rattle.alg_law.specs.declared.marks.Mark.TheVariants.{Good}
use Rattle.alg_law.specs.Declarations.{Declaration}
use Rattle.alg_law.specs.Derivations.{related}
use Rattle.alg_law.specs.Having.{has_class}
use Rattle.alg_law.specs.WellSorted.{sort_mark, class_mark, literal_class}
use Rattle.alg_law.proofs.WellSortedLaws.{worse-parts, literal-good}
use Rattle.alg_proof.specs.LiteralLines.{has_literal, relation_class, relation_holds}
use Rattle.alg_expr.specs.Ids.{tree_of}
use Rattle.alg_build.specs.Book.{Book, Concludes, Grows}
use Rattle.alg_build.proofs.Leading.{concludes-grows}
use Rattle.alg_build.specs.Rewriting.{Stands}
use Rattle.alg_build.proofs.Rewritings.{grows-stands}
use Rattle.alg_numerals.specs.declared.relations.Compared.{Compared}
use Rattle.alg_numerals.specs.Comparing.{Compares}
use Rattle.alg_numerals.specs.Numerals.{HasLiterals}
use Rattle.alg_numerals.proofs.LiteralLemmas.{literal_facts}

class_mark-is : (b : Bool) → class_mark b ≡ Good → b ≡ true
class_mark-is true e = refl
class_mark-is false e = cc

pub literals-literal : (b : Book) (s : Sort) (n : ℕ) → HasLiterals b s → has_literal b.theory.declarations s n ≡ true
literals-literal b s n h =
    let ds = b.theory.declarations in
    class_mark-is (has_class ds s (literal_class n)) (worse-parts (sort_mark ds s) (class_mark (has_class ds s (literal_class n))) (literal-good ds s h.known h.semiring n)).1

-- the class that a relation needs, by the relation
module _ (ds : List Declaration) (s : Sort) where
  pub class-ne : has_class ds s CharZero ≡ true → relation_class ds Ne s ≡ true
  class-ne h = h

  pub class-lt : has_class ds s IsStrictOrderedRing ≡ true → relation_class ds Lt s ≡ true
  class-lt h = h

  pub class-le : has_class ds s IsStrictOrderedRing ≡ true → relation_class ds Le s ≡ true
  class-le h = h

-- a sum with a part above 0 isn't 0
pub sum-differs : (m n : ℕ) → 0 < m → relation_holds Ne (m + n) 0 ≡ true
sum-differs m n h = grind (arith, nat_tests)

pub above-zero : (m : ℕ) → 0 < m → relation_holds Lt 0 m ≡ true
above-zero m h = grind (arith, nat_tests)

pub at_least-zero : (m : ℕ) → relation_holds Le 0 m ≡ true
at_least-zero m = grind (arith, nat_tests)

module _ (b : Book) where
  pub compares : (r : Rel) (s : Sort) (q : Compared) (x y : Tree) → Stands b s q.first x → Stands b s q.second y → Concludes b q.line (related r s x y) → Compares b r s q x y
  compares r s q x y h k p = record { first = h; second = k; line = p }

  -- the trees that the ids stand for are those that the line is on
  pub own-relation : (r : Rel) (s : Sort) (q : Compared) (x y : Tree) → Compares b r s q x y → Concludes b q.line (related r s (tree_of b.trees q.first) (tree_of b.trees q.second))
  own-relation r s q x y h = rw (h.first.tree, h.second.tree) h.line

  pub own-second : (r : Rel) (s : Sort) (q : Compared) (x y : Tree) → Compares b r s q x y → Concludes b q.line (related r s x (tree_of b.trees q.second))
  own-second r s q x y h = rw h.second.tree h.line

pub grows-compares : (a b : Book) (g : Grows a b) (r : Rel) (s : Sort) (q : Compared) (x y : Tree) → Compares a r s q x y → Compares b r s q x y
grows-compares a b g r s q x y h = record { first = grows-stands a b g s q.first x h.first; second = grows-stands a b g s q.second y h.second; line = concludes-grows a b q.line _ g h.line }

pub ruleset relations = (literal_facts, concludes-grows, literals-literal, sum-differs, above-zero, at_least-zero, compares, own-relation, own-second, grows-compares)
