-- What follows from there being no faults, and from tests that hold.
use Rattle.std.proofs.Common.{◌≡◌, ℕ, suc, Bool, true, false, not, ◌&&◌, ◌||◌, if◌then◌else◌, nat_eq, List, [], ◌∷◌, ◌++◌, Option, Some, refl, ap, sym, ◌∙◌, arith}
use Rattle.std.proofs.lemmas.Bool.{and_parts}
use Rattle.std.proofs.lemmas.Bool.Decides.{nat_tests}
use Rattle.std.specs.Str.{bytes_eq}
use Rattle.alg_terms.specs.declared.sorts.Sort.{Sort}
use Rattle.alg_terms.specs.declared.sorts.Sort.TheVariants.{Nat, Int, Rat, Decl}
use Rattle.alg_terms.specs.declared.symbols.Sym.{Sym}
use Rattle.alg_terms.specs.declared.symbols.Sym.TheVariants.{Add, Mul, Neg, Sub, Inv, Div, Npow, Zpow, Nsmul, Zsmul, Abs, Min, Max, NatSub, IDiv, Mod, Gcd, Lcm, Fact, Choose, Fib, Apply}
use Rattle.alg_terms.specs.Order.{sort_same}
use Rattle.alg_terms.proofs.OrderLaws.{sort_same-equal, sort_same-self}
use Rattle.alg_terms.specs.Symbols.{serves, is_integral}
use Rattle.alg_law.specs.declared.classes.Class.{Class}
use Rattle.alg_law.specs.declared.classes.Class.TheVariants.{AddMonoid, Semigroup, AddGroup, Group, Field, Monoid, Ring, IsStrictOrderedRing, LinearOrder}
use Rattle.alg_law.specs.declared.marks.Mark.TheVariants.{Good, BadSort}
use Rattle.alg_law.specs.Classes.{gives, own_classes}
use Rattle.alg_law.specs.Declarations.{Declaration}
use Rattle.alg_law.specs.Following.{IsKnown}
use Rattle.alg_law.specs.Having.{has_class}
use Rattle.alg_law.specs.WellSorted.{has_classes, class_mark}
use Rattle.alg_names.specs.declared.meanings.Meaning.{Meaning}
use Rattle.alg_names.specs.declared.scope.Scope.{Scope}
use Rattle.alg_names.specs.Found.{found}
use Rattle.alg_names.specs.InForce.{instances, supports}
use Rattle.alg_elaborate.specs.declared.causes.Cause.{Cause}
use Rattle.alg_elaborate.specs.declared.causes.Cause.TheVariants as cause
use Rattle.alg_elaborate.specs.Faults.{when, lacks, lacks_by, not_integral, differs}
use Rattle.alg_well_sorted.specs.Agreeing.{Means, IsMeant, AreMeant, Agrees}

pub append_parts : {A : Type 0} (xs ys : List A) → xs ++ ys ≡ [] → (xs ≡ []) × (ys ≡ [])
append_parts [] ys e = (refl, e)
append_parts (x ∷ xs) ys e = cc

pub when_none : (b : Bool) (c : Cause) → when (not b) c ≡ [] → b ≡ true
when_none true c e = refl
when_none false c e = cc

pub when_off : (b : Bool) (c : Cause) → when b c ≡ [] → b ≡ false
when_off true c e = cc
when_off false c e = refl

pub and_true : (a b : Bool) → a ≡ true → b ≡ true → (a && b) ≡ true
and_true true true p q = refl
and_true true false p q = cc
and_true false b p q = cc

pub mark_true : (a b : Bool) → a ≡ true → b ≡ true → (if a then class_mark b else BadSort) ≡ Good
mark_true true true p q = refl
mark_true true false p q = cc
mark_true false b p q = cc

pub mark_parts : (a b : Bool) → (if a then class_mark b else BadSort) ≡ Good → (a ≡ true) × (b ≡ true)
mark_parts true true e = (refl, refl)
mark_parts true false e = cc
mark_parts false b e = cc

pub class_good : (b : Bool) → b ≡ true → class_mark b ≡ Good
class_good true e = refl
class_good false e = cc

pub same_sort : (k l : Sort) → k ≡ l → sort_same k l ≡ true
same_sort k l p = ap (λ x. sort_same x l) p ∙ sort_same-self l

pub differs_none : (k l : Sort) → differs k l ≡ [] → k ≡ l
differs_none k l e = sort_same-equal k l (when_none (sort_same k l) cause.SortMismatch e)

pub integral_known : (ds : List Declaration) (l : Sort) → is_integral l ≡ true → IsKnown ds l
integral_known ds Nat e = refl
integral_known ds Int e = refl
integral_known ds Rat e = cc
integral_known ds (Decl d) e = cc

pub less_one : (m n : ℕ) → nat_eq (suc m) (suc n) ≡ true → nat_eq m n ≡ true
less_one m n e = grind (arith, nat_tests)

pub same_numbers : (m n : ℕ) → nat_eq m n ≡ true → m ≡ n
same_numbers m n e = grind (arith, nat_tests)

pub none_first : (n : ℕ) → nat_eq 0 (suc n) ≡ true → ⊥
none_first n e = omega (arith, same_numbers 0 (suc n) e)

pub none_last : (n : ℕ) → nat_eq (suc n) 0 ≡ true → ⊥
none_last n e = omega (arith, same_numbers (suc n) 0 e)

pub same_number-self : (n : ℕ) → nat_eq n n ≡ true
same_number-self n = grind (arith, nat_tests)

-- what a name in force means
pub found_meant : (ds : List Declaration) (ns : List (List ℕ × Meaning)) (x : List ℕ) → AreMeant ds ns → IsMeant ds (found ns x)
found_meant ds [] x h = tt
found_meant ds (n ∷ ns) x h = chosen (bytes_eq x n.0) n.1 (found ns x) h.0 (found_meant ds ns x h.1)
  where
    chosen : (b : Bool) (m : Meaning) (o : Option Meaning) → Means ds m → IsMeant ds o → IsMeant ds (if b then Some m else o)
    chosen true m o p q = p
    chosen false m o p q = q

pub has_same : (s : Scope) (ds : List Declaration) → Agrees s ds → (l : Sort) (c : Class) → has_class (instances s) l c ≡ has_class ds l c
has_same s ds a l c = ap (λ b. gives (own_classes l) c || b) (a.classes l c)

pub or_both : (a b c d : Bool) → a ≡ b → c ≡ d → (a || c) ≡ (b || d)
or_both a b c d p q = (λ i. p i || q i)

pub and_both : (a b c d : Bool) → a ≡ b → c ≡ d → (a && c) ≡ (b && d)
and_both a b c d p q = (λ i. p i && q i)

-- the same classes serve the same symbols
pub classes_same : (es ds : List Declaration) (k : Sort) → ((c : Class) → has_class es k c ≡ has_class ds k c) → (f : Sym) → has_classes es f k ≡ has_classes ds f k
classes_same es ds k h Add = h AddMonoid
classes_same es ds k h Mul = h Semigroup
classes_same es ds k h Neg = h AddGroup
classes_same es ds k h Sub = h AddGroup
classes_same es ds k h Inv = or_both (has_class es k Group) (has_class ds k Group) (has_class es k Field) (has_class ds k Field) (h Group) (h Field)
classes_same es ds k h Div = or_both (has_class es k Group) (has_class ds k Group) (has_class es k Field) (has_class ds k Field) (h Group) (h Field)
classes_same es ds k h Npow = h Monoid
classes_same es ds k h Zpow = or_both (has_class es k Group) (has_class ds k Group) (has_class es k Field) (has_class ds k Field) (h Group) (h Field)
classes_same es ds k h Nsmul = h AddMonoid
classes_same es ds k h Zsmul = h AddGroup
classes_same es ds k h Abs = and_both (has_class es k Ring) (has_class ds k Ring) (has_class es k IsStrictOrderedRing) (has_class ds k IsStrictOrderedRing) (h Ring) (h IsStrictOrderedRing)
classes_same es ds k h Min = h LinearOrder
classes_same es ds k h Max = h LinearOrder
classes_same es ds k h NatSub = refl
classes_same es ds k h IDiv = refl
classes_same es ds k h Mod = refl
classes_same es ds k h Gcd = refl
classes_same es ds k h Lcm = refl
classes_same es ds k h Fact = refl
classes_same es ds k h Choose = refl
classes_same es ds k h Fib = refl
classes_same es ds k h (Apply j) = refl

supported : (s : Scope) (ds : List Declaration) → Agrees s ds → (f : Sym) (k : Sort) → supports s f k ≡ true → (serves f k ≡ true) × (has_classes ds f k ≡ true)
supported s ds a f k e =
    let p = and_parts (serves f k) (has_classes (instances s) f k) e in
    (p.0, sym (classes_same (instances s) ds k (has_same s ds a k) f) ∙ p.1)

-- a symbol that the sort doesn't lack
pub lacks_none : (s : Scope) (ds : List Declaration) → Agrees s ds → (f : Sym) (k : Sort) → lacks s f k ≡ [] → (serves f k ≡ true) × (has_classes ds f k ≡ true)
lacks_none s ds a f k e = supported s ds a f k (when_none (supports s f k) cause.NoInstance e)

when_both : (a b : Bool) (c : Cause) → when (a && not b) c ≡ [] → a ≡ true → b ≡ true
when_both true true c e p = refl
when_both true false c e p = cc
when_both false b c e p = cc

pub lacks_by_none : (s : Scope) (ds : List Declaration) → Agrees s ds → (l : Sort) (f : Sym) (k : Sort) → lacks_by s l f k ≡ [] → is_integral l ≡ true → (serves f k ≡ true) × (has_classes ds f k ≡ true)
lacks_by_none s ds a l f k e i = supported s ds a f k (when_both (is_integral l) (supports s f k) cause.NoInstance e i)

pub integral_none : (l : Sort) → not_integral l ≡ [] → is_integral l ≡ true
integral_none l e = when_none (is_integral l) cause.SortMismatch e
