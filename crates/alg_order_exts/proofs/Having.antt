-- A sort with an order has what the lines ask for on each of its well sorted numerals.
use Rattle.std.proofs.Common.{◌≡◌, ℕ, zero, suc, ℤ, pos, negsuc, Bool, true, false, ◌||◌, nat_eq, List, [], ◌∷◌, refl, sym, ◌∙◌, subst, arith, ◌⊎◌, inl, inr}
use Rattle.std.specs.Prelude.{if◌then◌else◌}
use Rattle.std.proofs.lemmas.Bool.Decides.{nat_tests}
use Rattle.alg_terms.specs.declared.sorts.Sort.{Sort}
use Rattle.alg_terms.specs.declared.symbols.Sym.TheVariants.{Neg, Div}
use Rattle.alg_terms.specs.Symbols.{arguments_fit}
use Rattle.alg_terms.specs.Tree.{Tree, Lit, App, Cons, Nil, equal, sort_of_tree}
use Rattle.alg_expr.specs.Ids.{tree_of}
use Rattle.alg_num.specs.Fraction.{Fraction}
use Rattle.alg_law.specs.declared.classes.Class.TheVariants.{Semiring, Ring, AddGroup, AddCommGroup, Group, Field, CharZero, IsStrictOrderedRing}
use Rattle.alg_law.specs.declared.marks.Mark.TheVariants.{Good, BadSort}
use Rattle.alg_law.specs.Having.{has_class}
use Rattle.alg_law.specs.Lawful.{IsLawful}
use Rattle.alg_law.specs.WellSorted.{IsWellSorted, class_mark, sort_mark, head_mark, symbol_mark, mark_of, marks_of}
use Rattle.alg_law.proofs.HavingLaws.{has_class-all}
use Rattle.alg_law.proofs.LawfulLemmas.{ordered-parts, group-no_semiring, semiring-ring}
use Rattle.alg_law.proofs.WellSortedLaws.{worse-parts, known-from_good}
use Rattle.alg_lemma.specs.Library.{HoldsLibrary}
use Rattle.alg_proof.specs.Admissible.{IsFine}
use Rattle.alg_build.specs.Book.{Book, Proves, fact}
use Rattle.alg_build.proofs.Lines.{proves-fact}
use Rattle.alg_numerals.specs.Numerals.{HasLiterals, HasSigns, SignsOf}
use Rattle.alg_fractions.specs.Fractions.{HasFraction, HasQuotients, QuotientsOf}
use Rattle.alg_values.specs.Numerals.{whole_tree, numeral_tree}
use Rattle.alg_exts.specs.Valuing.{IsValued}
use Rattle.alg_exts.specs.declared.num_ext.Valued.{Valued}

class_mark-is : (b : Bool) → class_mark b ≡ Good → b ≡ true
class_mark-is true e = refl
class_mark-is false e = cc

class_where : (b c : Bool) → (if b then class_mark c else BadSort) ≡ Good → c ≡ true
class_where true c e = class_mark-is c e
class_where false c e = cc

one_of : (a b : Bool) → (a || b) ≡ true → (a ≡ true) ⊎ (b ≡ true)
one_of true b e = inl refl
one_of false b e = inr e

nat_eq-equal : (m n : ℕ) → nat_eq m n ≡ true → m ≡ n
nat_eq-equal m n e = grind (arith, nat_tests)

module _ (b : Book) (s : Sort) (lawful : IsLawful b.theory.declarations) (known : sort_mark b.theory.declarations s ≡ Good) (library : HoldsLibrary b.theory.lemmas) (ordered : has_class b.theory.declarations s IsStrictOrderedRing ≡ true) where
  semiring : has_class b.theory.declarations s Semiring ≡ true
  semiring = (ordered-parts b.theory.declarations lawful s ordered).0

  literals : HasLiterals b s
  literals = record { known = known; semiring = semiring; library = library }

  ring_signs : has_class b.theory.declarations s Ring ≡ true → HasSigns b s
  ring_signs r = record {
    literals = literals;
    group = has_class-all b.theory.declarations s Ring AddGroup refl r;
    commutative = has_class-all b.theory.declarations s Ring AddCommGroup refl r;
    ring = r;
  }

  negation_signs : (x : Tree) → IsWellSorted b.theory.declarations (App Neg s (Cons x Nil)) → HasSigns b s
  negation_signs x w =
      let ts : List Sort = sort_of_tree x ∷ [] in
      let head = (worse-parts (head_mark b.theory.declarations Neg s ts) (marks_of b.theory.declarations (Cons x Nil)) w).0 in
      let class = class_where (arguments_fit Neg s ts) (has_class b.theory.declarations s AddGroup) (worse-parts (sort_mark b.theory.declarations s) (symbol_mark b.theory.declarations Neg s ts) head).1 in
      ring_signs (semiring-ring b.theory.declarations lawful s semiring class)

  whole_signs : (z : ℤ) → IsWellSorted b.theory.declarations (whole_tree s z) → SignsOf b s z
  unfolding whole_tree
  whole_signs (pos n) w = tt
  whole_signs (negsuc n) w = negation_signs (Lit s (suc n)) w

  no_group : has_class b.theory.declarations s Group ≡ true → ⊥
  no_group g =
      let e : true ≡ false = sym semiring ∙ group-no_semiring b.theory.declarations lawful s g in
      cc

  field_quotients : has_class b.theory.declarations s Field ≡ true → HasQuotients b s
  field_quotients f = record {
    signs = ring_signs (has_class-all b.theory.declarations s Field Ring refl f);
    field = f;
    char_zero = has_class-all b.theory.declarations s IsStrictOrderedRing CharZero refl ordered;
  }

  quotient_quotients : (x y : Tree) → IsWellSorted b.theory.declarations (App Div s (Cons x (Cons y Nil))) → HasQuotients b s
  quotient_quotients x y w =
      let ts : List Sort = sort_of_tree x ∷ sort_of_tree y ∷ [] in
      let head = (worse-parts (head_mark b.theory.declarations Div s ts) (marks_of b.theory.declarations (Cons x (Cons y Nil))) w).0 in
      let class = class_where (arguments_fit Div s ts) _ (worse-parts (sort_mark b.theory.declarations s) (symbol_mark b.theory.declarations Div s ts) head).1 in
      elim (one_of _ _ class) [
        | inl g ↦ absurd (no_group g)
        | inr f ↦ field_quotients f
      ]

  quotients_of : (d : ℕ) → HasQuotients b s → QuotientsOf b s d
  quotients_of zero h = h
  quotients_of (suc zero) h = tt
  quotients_of (suc (suc d)) h = h

  module _ (x : Tree) (d : ℕ) where
    parts : (t : Bool) → nat_eq d 1 ≡ t → IsWellSorted b.theory.declarations (if t then x else App Div s (Cons x (Cons (Lit s d) Nil))) → IsWellSorted b.theory.declarations x × QuotientsOf b s d
    parts true e w = (w, subst (QuotientsOf b s) (sym (nat_eq-equal d 1 e)) tt)
    parts false e w =
        let both = worse-parts (head_mark b.theory.declarations Div s (sort_of_tree x ∷ s ∷ [])) (marks_of b.theory.declarations (Cons x (Cons (Lit s d) Nil))) w in
        ((worse-parts (mark_of b.theory.declarations x) _ both.1).0, quotients_of d (quotient_quotients x (Lit s d) w))

  numeral_fraction : (p : Fraction) → IsWellSorted b.theory.declarations (numeral_tree s p) → HasFraction b s p
  numeral_fraction p w =
      let both = parts (whole_tree s p.numerator) p.denominator (nat_eq p.denominator 1) refl w in
      record { whole = record { literals = literals; signs = whole_signs p.numerator both.0 }; quotients = both.1 }

-- that of an evaluated part, whose line is good
pub valued_fraction : (b : Book) (s : Sort) (v : Valued) → IsLawful b.theory.declarations → HoldsLibrary b.theory.lemmas → has_class b.theory.declarations s IsStrictOrderedRing ≡ true → IsValued b v → sort_of_tree (tree_of b.trees v.expr) ≡ s → IsFine b.theory.declarations b.theory.given (fact b v.line) → HasFraction b s v.value
valued_fraction b s v lawful library ordered h e fine =
    let t : Tree = tree_of b.trees v.expr in
    let proves : Proves b v.line t (numeral_tree s v.value) = subst (λ (s : Sort). Proves b v.line t (numeral_tree s v.value)) e h.proves in
    let f : IsFine b.theory.declarations b.theory.given (equal t (numeral_tree s v.value)) = subst (IsFine b.theory.declarations b.theory.given) (proves-fact b v.line t (numeral_tree s v.value) proves) fine in
    let known : sort_mark b.theory.declarations s ≡ Good = subst (λ (s : Sort). sort_mark b.theory.declarations s ≡ Good) e (known-from_good b.theory.declarations t f.statement.left) in
    numeral_fraction b s lawful known library ordered v.value f.statement.right
