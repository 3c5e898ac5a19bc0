-- What is well sorted under declarations stays so under more; so each hypothesis is well sorted.
use Rattle.std.specs.Prelude.{◌≡◌, ℕ, zero, suc, Bool, true, false, ◌&&◌, ◌||◌, if◌then◌else◌, nat_eq, List, [], ◌∷◌, ◌++◌, length, Option, Some, None, slice_get, Contains, refl}
use Rattle.std.proofs.Common.{ap, subst, arith, inl, inr, append_assoc}
use Rattle.std.proofs.lemmas.Bool.{and_parts, and_from, or_left, or_right}
use Rattle.alg_terms.specs.declared.sorts.Sort.{Sort}
use Rattle.alg_terms.specs.declared.sorts.Sort.TheVariants.{Nat, Int, Rat, Decl}
use Rattle.alg_terms.specs.declared.symbols.Sym.{Sym}
use Rattle.alg_terms.specs.declared.symbols.Sym.TheVariants.{Add, Mul, Neg, Sub, Inv, Div, Npow, Zpow, Nsmul, Zsmul, Abs, Min, Max, NatSub, IDiv, Mod, Gcd, Lcm, Fact, Choose, Fib, Apply}
use Rattle.alg_terms.specs.declared.relations.Rel.{Rel}
use Rattle.alg_terms.specs.declared.relations.Rel.TheVariants.{Eq, Ne, Lt, Le, Dvd}
use Rattle.alg_terms.specs.Symbols.{places, arguments_fit}
use Rattle.alg_terms.specs.Tree.{Tree, Lit, Var, App, Trees, Nil, Cons, Statement}
use Rattle.alg_law.specs.declared.classes.Class.{Class}
use Rattle.alg_law.specs.declared.classes.Class.TheVariants as class
use Rattle.alg_law.specs.declared.marks.Mark.TheVariants.{Good, BadSort, BadName}
use Rattle.alg_law.specs.Classes.{gives, own_classes}
use Rattle.alg_law.specs.Declarations.{Declaration, Carrier, Instance, Variable, Function, Hypothesis, hypotheses}
use Rattle.alg_law.specs.Having.{has_class, instance_gives, instances_give}
use Rattle.alg_law.specs.Following.{AllMayFollow, IsWellFormed}
use Rattle.alg_law.specs.WellSorted.{is_type, variable_of, function_of, sort_mark, literal_class, class_mark, of_sort, of_function, has_classes, built_in_mark, symbol_mark, head_mark, mark_of, marks_of, sorts_of, has_relation, IsWellSorted, AreWellSorted, IsStatement}
use Rattle.alg_law.proofs.WellSortedLaws.{worse-good, worse-parts}
use Rattle.alg_proof.proofs.PatternLaws.{or_else}

slice_get-more : (ds more : List Declaration) (k : ℕ) (d : Declaration) → slice_get ds k ≡ Some d → slice_get (ds ++ more) k ≡ Some d
slice_get-more [] more k d e = cc
slice_get-more (x ∷ ds) more zero d e = e
slice_get-more (x ∷ ds) more (suc k) d e = slice_get-more ds more k d e

class_mark-is : (b : Bool) → class_mark b ≡ Good → b ≡ true
class_mark-is true e = refl
class_mark-is false e = cc

module _ (ds more : List Declaration) where
  instances_give-later : (xs : List Declaration) (s : Sort) (c : Class) → instances_give xs s c ≡ true → instances_give (xs ++ more) s c ≡ true
  instances_give-later [] s c e = cc
  instances_give-later (x ∷ xs) s c e =
      elim (or_else (instance_gives x s c) (instances_give xs s c) e) [
        | inl p ↦ or_left (instance_gives x s c) (instances_give (xs ++ more) s c) p
        | inr p ↦ or_right (instance_gives x s c) (instances_give (xs ++ more) s c) (instances_give-later xs s c p)
      ]

  has_class-later : (s : Sort) (c : Class) → has_class ds s c ≡ true → has_class (ds ++ more) s c ≡ true
  has_class-later s c e =
      elim (or_else (gives (own_classes s) c) (instances_give ds s c) e) [
        | inl p ↦ or_left (gives (own_classes s) c) (instances_give (ds ++ more) s c) p
        | inr p ↦ or_right (gives (own_classes s) c) (instances_give (ds ++ more) s c) (instances_give-later ds s c p)
      ]

  type-later : (k : ℕ) (o : Option Declaration) → slice_get ds k ≡ o → (if is_type (slice_get ds k) then Good else BadName) ≡ Good → (if is_type (slice_get (ds ++ more) k) then Good else BadName) ≡ Good
  type-later k None f e = let g = (rw f at e) in cc
  type-later k (Some d) f e = rw (slice_get-more ds more k d f) (rw f at e)

  sort_mark-later : (s : Sort) → sort_mark ds s ≡ Good → sort_mark (ds ++ more) s ≡ Good
  sort_mark-later Nat e = refl
  sort_mark-later Int e = refl
  sort_mark-later Rat e = refl
  sort_mark-later (Decl k) e = type-later k (slice_get ds k) refl e

  variable-later : (k : ℕ) (s : Sort) (o : Option Declaration) → slice_get ds k ≡ o → of_sort (variable_of (slice_get ds k)) s ≡ Good → of_sort (variable_of (slice_get (ds ++ more) k)) s ≡ Good
  variable-later k s None f e = let g = (rw f at e) in cc
  variable-later k s (Some d) f e = rw (slice_get-more ds more k d f) (rw f at e)

  function-later : (k : ℕ) (s : Sort) (ts : List Sort) (o : Option Declaration) → slice_get ds k ≡ o → of_function (function_of (slice_get ds k)) s ts ≡ Good → of_function (function_of (slice_get (ds ++ more) k)) s ts ≡ Good
  function-later k s ts None f e = let g = (rw f at e) in cc
  function-later k s ts (Some d) f e = rw (slice_get-more ds more k d f) (rw f at e)

  either-later : (s : Sort) (b c : Class) → (has_class ds s b || has_class ds s c) ≡ true → (has_class (ds ++ more) s b || has_class (ds ++ more) s c) ≡ true
  either-later s b c e =
      elim (or_else (has_class ds s b) (has_class ds s c) e) [
        | inl p ↦ or_left (has_class (ds ++ more) s b) (has_class (ds ++ more) s c) (has_class-later s b p)
        | inr p ↦ or_right (has_class (ds ++ more) s b) (has_class (ds ++ more) s c) (has_class-later s c p)
      ]

  has_classes-later : (f : Sym) (s : Sort) → has_classes ds f s ≡ true → has_classes (ds ++ more) f s ≡ true
  has_classes-later Add s e = has_class-later s class.AddMonoid e
  has_classes-later Mul s e = has_class-later s class.Semigroup e
  has_classes-later Neg s e = has_class-later s class.AddGroup e
  has_classes-later Sub s e = has_class-later s class.AddGroup e
  has_classes-later Inv s e = either-later s class.Group class.Field e
  has_classes-later Div s e = either-later s class.Group class.Field e
  has_classes-later Npow s e = has_class-later s class.Monoid e
  has_classes-later Zpow s e = either-later s class.Group class.Field e
  has_classes-later Nsmul s e = has_class-later s class.AddMonoid e
  has_classes-later Zsmul s e = has_class-later s class.AddGroup e
  has_classes-later Abs s e =
      let k = and_parts (has_class ds s class.Ring) (has_class ds s class.IsStrictOrderedRing) e in
      and_from (has_class (ds ++ more) s class.Ring) (has_class (ds ++ more) s class.IsStrictOrderedRing) (has_class-later s class.Ring k.0) (has_class-later s class.IsStrictOrderedRing k.1)
  has_classes-later Min s e = has_class-later s class.LinearOrder e
  has_classes-later Max s e = has_class-later s class.LinearOrder e
  has_classes-later NatSub s e = refl
  has_classes-later IDiv s e = refl
  has_classes-later Mod s e = refl
  has_classes-later Gcd s e = refl
  has_classes-later Lcm s e = refl
  has_classes-later Fact s e = refl
  has_classes-later Choose s e = refl
  has_classes-later Fib s e = refl
  has_classes-later (Apply k) s e = refl

  arity-later : (b : Bool) (f : Sym) (s : Sort) → (if b then class_mark (has_classes ds f s) else BadSort) ≡ Good → (if b then class_mark (has_classes (ds ++ more) f s) else BadSort) ≡ Good
  arity-later true f s e = ap class_mark (has_classes-later f s (class_mark-is (has_classes ds f s) e))
  arity-later false f s e = cc

  built_in-later : (f : Sym) (s : Sort) (ts : List Sort) → built_in_mark ds f s ts ≡ Good → built_in_mark (ds ++ more) f s ts ≡ Good
  built_in-later f s ts e = arity-later (nat_eq (length (places f)) (length ts) && arguments_fit f s ts) f s e

  symbol_mark-later : (f : Sym) (s : Sort) (ts : List Sort) → symbol_mark ds f s ts ≡ Good → symbol_mark (ds ++ more) f s ts ≡ Good
  symbol_mark-later (Apply k) s ts e = function-later k s ts (slice_get ds k) refl e
  symbol_mark-later Add s ts e = built_in-later Add s ts e
  symbol_mark-later Mul s ts e = built_in-later Mul s ts e
  symbol_mark-later Neg s ts e = built_in-later Neg s ts e
  symbol_mark-later Sub s ts e = built_in-later Sub s ts e
  symbol_mark-later Inv s ts e = built_in-later Inv s ts e
  symbol_mark-later Div s ts e = built_in-later Div s ts e
  symbol_mark-later Npow s ts e = built_in-later Npow s ts e
  symbol_mark-later Zpow s ts e = built_in-later Zpow s ts e
  symbol_mark-later Nsmul s ts e = built_in-later Nsmul s ts e
  symbol_mark-later Zsmul s ts e = built_in-later Zsmul s ts e
  symbol_mark-later Abs s ts e = built_in-later Abs s ts e
  symbol_mark-later Min s ts e = built_in-later Min s ts e
  symbol_mark-later Max s ts e = built_in-later Max s ts e
  symbol_mark-later NatSub s ts e = built_in-later NatSub s ts e
  symbol_mark-later IDiv s ts e = built_in-later IDiv s ts e
  symbol_mark-later Mod s ts e = built_in-later Mod s ts e
  symbol_mark-later Gcd s ts e = built_in-later Gcd s ts e
  symbol_mark-later Lcm s ts e = built_in-later Lcm s ts e
  symbol_mark-later Fact s ts e = built_in-later Fact s ts e
  symbol_mark-later Choose s ts e = built_in-later Choose s ts e
  symbol_mark-later Fib s ts e = built_in-later Fib s ts e

  mutual
    mark_of-later : (t : Tree) → IsWellSorted ds t → IsWellSorted (ds ++ more) t
    mark_of-later (Lit s n) e =
        let k = worse-parts (sort_mark ds s) (class_mark (has_class ds s (literal_class n))) e in
        worse-good (sort_mark (ds ++ more) s) _ (sort_mark-later s k.0) (ap class_mark (has_class-later s (literal_class n) (class_mark-is (has_class ds s (literal_class n)) k.1)))
    mark_of-later (Var d s) e =
        let k = worse-parts (sort_mark ds s) (of_sort (variable_of (slice_get ds d)) s) e in
        worse-good (sort_mark (ds ++ more) s) _ (sort_mark-later s k.0) (variable-later d s (slice_get ds d) refl k.1)
    mark_of-later (App f s xs) e =
        let k = worse-parts (head_mark ds f s (sorts_of xs)) (marks_of ds xs) e in
        let h = worse-parts (sort_mark ds s) (symbol_mark ds f s (sorts_of xs)) k.0 in
        let head : head_mark (ds ++ more) f s (sorts_of xs) ≡ Good = worse-good (sort_mark (ds ++ more) s) _ (sort_mark-later s h.0) (symbol_mark-later f s (sorts_of xs) h.1) in
        worse-good (head_mark (ds ++ more) f s (sorts_of xs)) _ head (marks_of-later xs k.1)

    marks_of-later : (ts : Trees) → AreWellSorted ds ts → AreWellSorted (ds ++ more) ts
    marks_of-later Nil e = refl
    marks_of-later (Cons t ts) e =
        let k = worse-parts (mark_of ds t) (marks_of ds ts) e in
        worse-good (mark_of (ds ++ more) t) _ (mark_of-later t k.0) (marks_of-later ts k.1)

  has_relation-later : (r : Rel) (s : Sort) → has_relation ds r s ≡ true → has_relation (ds ++ more) r s ≡ true
  has_relation-later Eq s e = refl
  has_relation-later Ne s e = refl
  has_relation-later Lt s e = has_class-later s class.LinearOrder e
  has_relation-later Le s e = has_class-later s class.LinearOrder e
  has_relation-later Dvd s e = e

  -- a statement stays one
  pub IsStatement-later : (s : Statement) → IsStatement ds s → IsStatement (ds ++ more) s
  IsStatement-later s h =
      record {
        left = mark_of-later s.lhs h.left;
        right = mark_of-later s.rhs h.right;
        left_sort = h.left_sort;
        right_sort = h.right_sort;
        related = has_relation-later s.rel s.sort h.related;
      }

-- among hypotheses after these declarations
hypotheses-after : (ds es : List Declaration) (s : Statement) → AllMayFollow ds es → Contains (hypotheses es) s → IsStatement (ds ++ es) s
hypotheses-after ds [] s h i = absurd (omega (arith, i.1))
hypotheses-after ds (Carrier n ∷ es) s h i = subst (λ (x : List Declaration). IsStatement x s) (append_assoc ds (Carrier n ∷ []) es) (hypotheses-after (ds ++ Carrier n ∷ []) es s h.1 i)
hypotheses-after ds (Instance k c ∷ es) s h i = subst (λ (x : List Declaration). IsStatement x s) (append_assoc ds (Instance k c ∷ []) es) (hypotheses-after (ds ++ Instance k c ∷ []) es s h.1 i)
hypotheses-after ds (Variable n t ∷ es) s h i = subst (λ (x : List Declaration). IsStatement x s) (append_assoc ds (Variable n t ∷ []) es) (hypotheses-after (ds ++ Variable n t ∷ []) es s h.1 i)
hypotheses-after ds (Function n ts t ∷ es) s h i = subst (λ (x : List Declaration). IsStatement x s) (append_assoc ds (Function n ts t ∷ []) es) (hypotheses-after (ds ++ Function n ts t ∷ []) es s h.1 i)
hypotheses-after ds (Hypothesis n g ∷ es) s h (zero, _, is) = subst (IsStatement (ds ++ Hypothesis n g ∷ es)) is (IsStatement-later ds (Hypothesis n g ∷ es) g h.0)
hypotheses-after ds (Hypothesis n g ∷ es) s h (suc k, l, is) = subst (λ (x : List Declaration). IsStatement x s) (append_assoc ds (Hypothesis n g ∷ []) es) (hypotheses-after (ds ++ Hypothesis n g ∷ []) es s h.1 (k, omega (arith, l), is))

-- each hypothesis of well formed declarations is well sorted
pub hypotheses-statements : (ds : List Declaration) → IsWellFormed ds → (s : Statement) → Contains (hypotheses ds) s → IsStatement ds s
hypotheses-statements ds h s i = hypotheses-after [] ds s h i
