-- The numerals of ℕ and ℤ are those of whole numbers.
use Rattle.std.proofs.Common.{◌≡◌, ℕ, ℤ, pos, negsuc, Bool, true, false, ◌||◌, nat_eq, List, [], ◌∷◌, refl, arith}
use Rattle.std.specs.Prelude.{suc, if◌then◌else◌}
use Rattle.std.proofs.lemmas.Bool.Decides.{nat_tests}
use Rattle.alg_terms.specs.declared.sorts.Sort.{Sort}
use Rattle.alg_terms.specs.declared.sorts.Sort.TheVariants.{Nat, Int, Rat, Decl}
use Rattle.alg_terms.specs.declared.symbols.Sym.TheVariants.{Neg, Div}
use Rattle.alg_terms.specs.Symbols.{is_integral, arguments_fit}
use Rattle.alg_terms.specs.Tree.{Tree, Lit, App, Cons, Nil, sort_of_tree}
use Rattle.alg_num.specs.Fraction.{Fraction}
use Rattle.alg_law.specs.declared.classes.Class.{Class}
use Rattle.alg_law.specs.declared.classes.Class.TheVariants.{AddGroup, Group, Field}
use Rattle.alg_law.specs.declared.marks.Mark.TheVariants.{Good, BadSort}
use Rattle.alg_law.specs.Declarations.{Declaration, Carrier, Instance, Variable, Function, Hypothesis}
use Rattle.alg_law.specs.Having.{has_class, instances_give}
use Rattle.alg_law.specs.WellSorted.{IsWellSorted, class_mark, sort_mark, literal_class, head_mark, symbol_mark, mark_of, marks_of}
use Rattle.alg_law.proofs.WellSortedLaws.{worse-parts}
use Rattle.alg_proof.specs.Computations.{numeral_at, has_numeral}
use Rattle.alg_values.specs.Numerals.{whole_tree, numeral_tree}

-- no declaration gives ℕ or ℤ a class
none_given : (ds : List Declaration) (s : Sort) (c : Class) → is_integral s ≡ true → instances_give ds s c ≡ false
none_given [] s c i = refl
none_given (Carrier n ∷ ds) s c i = none_given ds s c i
none_given (Instance k b ∷ ds) Nat c i = none_given ds Nat c i
none_given (Instance k b ∷ ds) Int c i = none_given ds Int c i
none_given (Instance k b ∷ ds) Rat c i = cc
none_given (Instance k b ∷ ds) (Decl j) c i = cc
none_given (Variable n t ∷ ds) s c i = none_given ds s c i
none_given (Function n ts t ∷ ds) s c i = none_given ds s c i
none_given (Hypothesis n h ∷ ds) s c i = none_given ds s c i

-- neither has quotients
no_quotients : (ds : List Declaration) (s : Sort) → is_integral s ≡ true → (has_class ds s Group || has_class ds s Field) ≡ false
no_quotients ds Nat i = rw (none_given ds Nat Group i, none_given ds Nat Field i) refl
no_quotients ds Int i = rw (none_given ds Int Group i, none_given ds Int Field i) refl
no_quotients ds Rat i = cc
no_quotients ds (Decl k) i = cc

class_mark-is : (b : Bool) → class_mark b ≡ Good → b ≡ true
class_mark-is true e = refl
class_mark-is false e = cc

class_where : (b c : Bool) → (if b then class_mark c else BadSort) ≡ Good → c ≡ true
class_where true c e = class_mark-is c e
class_where false c e = cc

nat_eq-equal : (m n : ℕ) → nat_eq m n ≡ true → m ≡ n
nat_eq-equal m n e = grind (arith, nat_tests)

module _ (ds : List Declaration) (s : Sort) where
  quotient-class : (x y : Tree) → IsWellSorted ds (App Div s (Cons x (Cons y Nil))) → (has_class ds s Group || has_class ds s Field) ≡ true
  quotient-class x y w =
      let ts : List Sort = sort_of_tree x ∷ sort_of_tree y ∷ [] in
      let head = (worse-parts (head_mark ds Div s ts) (marks_of ds (Cons x (Cons y Nil))) w).0 in
      class_where (arguments_fit Div s ts) _ (worse-parts (sort_mark ds s) (symbol_mark ds Div s ts) head).1

  -- the denominator is 1, and the numerator's numeral stands alone
  module _ (i : is_integral s ≡ true) (x : Tree) (d : ℕ) where
    whole-at : (b : Bool) → nat_eq d 1 ≡ b → IsWellSorted ds (if b then x else App Div s (Cons x (Cons (Lit s d) Nil))) → (d ≡ 1) × IsWellSorted ds x
    whole-at true e w = (nat_eq-equal d 1 e, w)
    whole-at false e w =
        let p : true ≡ false = cc (quotient-class x (Lit s d) w, no_quotients ds s i) in
        cc

  pub whole-numeral : (p : Fraction) → is_integral s ≡ true → IsWellSorted ds (numeral_tree s p) → (p.denominator ≡ 1) × IsWellSorted ds (whole_tree s p.numerator)
  whole-numeral p i w = whole-at i (whole_tree s p.numerator) p.denominator (nat_eq p.denominator 1) refl w

  -- the classes of a well sorted numeral
  literal-class : (n : ℕ) → IsWellSorted ds (Lit s n) → has_class ds s (literal_class n) ≡ true
  literal-class n w = class_mark-is _ (worse-parts (sort_mark ds s) _ w).1

  negation-class : (x : Tree) → IsWellSorted ds (App Neg s (Cons x Nil)) → (has_class ds s AddGroup ≡ true) × IsWellSorted ds x
  negation-class x w =
      let ts : List Sort = sort_of_tree x ∷ [] in
      let both = worse-parts (head_mark ds Neg s ts) (marks_of ds (Cons x Nil)) w in
      let class = class_where (arguments_fit Neg s ts) (has_class ds s AddGroup) (worse-parts (sort_mark ds s) (symbol_mark ds Neg s ts) both.0).1 in
      (class, (worse-parts (mark_of ds x) Good both.1).0)

  pub numeral-has : (z : ℤ) → IsWellSorted ds (whole_tree s z) → has_numeral ds s z ≡ true
  unfolding whole_tree
  numeral-has (pos n) w = literal-class n w
  numeral-has (negsuc n) w =
      let h = negation-class (Lit s (suc n)) w in
      rw (h.0, literal-class (suc n) h.1) refl

pub numeral-same : (s : Sort) (z : ℤ) → whole_tree s z ≡ numeral_at s z
unfolding whole_tree
numeral-same s (pos n) = refl
numeral-same s (negsuc n) = refl

pub over-one : (s : Sort) (p : Fraction) → p.denominator ≡ 1 → numeral_tree s p ≡ numeral_at s p.numerator
over-one s p e = rw e (numeral-same s p.numerator)
