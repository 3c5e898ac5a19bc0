-- The test of classes decides the relation.
use Rattle.std.proofs.Common.{◌≡◌, ℕ, Bool, true, false, ◌&&◌, ◌||◌, nat_eq, List, [], ◌∷◌, refl, ap, sym, ◌∙◌, subst, inl, inr, arith, ◌↔◌, IsTrue}
use Rattle.std.specs.Prelude.{◌⊎◌}
use Rattle.std.proofs.lemmas.Bool.{and_parts}
use Rattle.std.proofs.lemmas.Bool.Decides.{nat_tests}
use Rattle.alg_terms.specs.declared.sorts.Sort.{Sort}
use Rattle.alg_terms.specs.declared.sorts.Sort.TheVariants.{Nat, Int, Rat, Decl}
use Rattle.alg_law.specs.declared.classes.Class.{Class}
use Rattle.alg_law.specs.declared.classes.Class.TheVariants.{Semigroup, CommSemigroup, Monoid, CommMonoid, Group, CommGroup, AddMonoid, AddCommMonoid, AddGroup, AddCommGroup, Semiring, CommSemiring, Ring, CommRing, Field, LinearOrder, CharZero, IsStrictOrderedRing, LinearOrderedCommRing, LinearOrderedField}
use Rattle.alg_law.specs.Classes.{class_key, class_at, class_at-class_key, implied_by, all_of, class_same, is_among, gives, own_classes}
use Rattle.alg_law.specs.Declarations.{Declaration, Carrier, Instance, Variable, Function, Hypothesis}
use Rattle.alg_law.specs.Having.{Has, built_in, declares, implied, is_instance, declares_instance, is_decl, instance_gives, instances_give, has_class}

or_parts : (x y : Bool) → (x || y) ≡ true → (x ≡ true) ⊎ (y ≡ true)
or_parts true y e = inl refl
or_parts false y e = inr e

or_left : (x y : Bool) → x ≡ true → (x || y) ≡ true
or_left x y e = rw e refl

or_right : (x y : Bool) → y ≡ true → (x || y) ≡ true
or_right true y e = refl
or_right false y e = e

same_number : (m n : ℕ) → nat_eq m n ≡ true → m ≡ n
same_number m n e = grind (arith, nat_tests)

nat_eq-self : (n : ℕ) → nat_eq n n ≡ true
nat_eq-self n = grind (arith, nat_tests)

class_same-equal : (b c : Class) → class_same b c ≡ true → b ≡ c
class_same-equal b c e = sym (class_at-class_key b) ∙ ap class_at (same_number (class_key b) (class_key c) e) ∙ class_at-class_key c

-- each is implied at once by one that comes before
abbrev pub implied_by_one : List Class → Class → Bool
implied_by_one [] c = false
implied_by_one (b ∷ bs) c = is_among (implied_by b) c || implied_by_one bs c

abbrev pub chained : List Class → List Class → Bool
chained seen [] = true
chained seen (c ∷ cs) = implied_by_one seen c && chained (c ∷ seen) cs

-- what they imply at once is among them
abbrev pub all_among : List Class → List Class → Bool
all_among whole [] = true
all_among whole (c ∷ cs) = is_among whole c && all_among whole cs

abbrev pub closed : List Class → List Class → Bool
closed whole [] = true
closed whole (c ∷ cs) = all_among whole (implied_by c) && closed whole cs

abbrev pub tail_of : List Class → List Class
tail_of [] = []
tail_of (c ∷ cs) = cs

all_of-chained : (b : Class) → chained (b ∷ []) (tail_of (all_of b)) ≡ true
all_of-chained Semigroup = refl
all_of-chained CommSemigroup = refl
all_of-chained Monoid = refl
all_of-chained CommMonoid = refl
all_of-chained Group = refl
all_of-chained CommGroup = refl
all_of-chained AddMonoid = refl
all_of-chained AddCommMonoid = refl
all_of-chained AddGroup = refl
all_of-chained AddCommGroup = refl
all_of-chained Semiring = refl
all_of-chained CommSemiring = refl
all_of-chained Ring = refl
all_of-chained CommRing = refl
all_of-chained Field = refl
all_of-chained LinearOrder = refl
all_of-chained CharZero = refl
all_of-chained IsStrictOrderedRing = refl
all_of-chained LinearOrderedCommRing = refl
all_of-chained LinearOrderedField = refl

all_of-closed : (b : Class) → closed (all_of b) (all_of b) ≡ true
all_of-closed Semigroup = refl
all_of-closed CommSemigroup = refl
all_of-closed Monoid = refl
all_of-closed CommMonoid = refl
all_of-closed Group = refl
all_of-closed CommGroup = refl
all_of-closed AddMonoid = refl
all_of-closed AddCommMonoid = refl
all_of-closed AddGroup = refl
all_of-closed AddCommGroup = refl
all_of-closed Semiring = refl
all_of-closed CommSemiring = refl
all_of-closed Ring = refl
all_of-closed CommRing = refl
all_of-closed Field = refl
all_of-closed LinearOrder = refl
all_of-closed CharZero = refl
all_of-closed IsStrictOrderedRing = refl
all_of-closed LinearOrderedCommRing = refl
all_of-closed LinearOrderedField = refl

all_of-head : (b : Class) → all_of b ≡ b ∷ tail_of (all_of b)
all_of-head Semigroup = refl
all_of-head CommSemigroup = refl
all_of-head Monoid = refl
all_of-head CommMonoid = refl
all_of-head Group = refl
all_of-head CommGroup = refl
all_of-head AddMonoid = refl
all_of-head AddCommMonoid = refl
all_of-head AddGroup = refl
all_of-head AddCommGroup = refl
all_of-head Semiring = refl
all_of-head CommSemiring = refl
all_of-head Ring = refl
all_of-head CommRing = refl
all_of-head Field = refl
all_of-head LinearOrder = refl
all_of-head CharZero = refl
all_of-head IsStrictOrderedRing = refl
all_of-head LinearOrderedCommRing = refl
all_of-head LinearOrderedField = refl

all_among-at : (whole cs : List Class) (d : Class) → all_among whole cs ≡ true → is_among cs d ≡ true → is_among whole d ≡ true
all_among-at whole [] d h e = cc
all_among-at whole (c ∷ cs) d h e =
    let k = and_parts (is_among whole c) (all_among whole cs) h in
    elim (or_parts (class_same c d) (is_among cs d) e) [
      | inl p ↦ subst (λ x. is_among whole x ≡ true) (class_same-equal c d p) k.0
      | inr p ↦ all_among-at whole cs d k.1 p
    ]

closed-at : (whole cs : List Class) (c d : Class) → closed whole cs ≡ true → is_among cs c ≡ true → is_among (implied_by c) d ≡ true → is_among whole d ≡ true
closed-at whole [] c d h e f = cc
closed-at whole (b ∷ bs) c d h e f =
    let k = and_parts (all_among whole (implied_by b)) (closed whole bs) h in
    elim (or_parts (class_same b c) (is_among bs c) e) [
      | inl p ↦ all_among-at whole (implied_by b) d k.0 (subst (λ x. is_among (implied_by x) d ≡ true) (sym (class_same-equal b c p)) f)
      | inr p ↦ closed-at whole bs c d k.1 p f
    ]

gives-closed : (bs : List Class) (c d : Class) → gives bs c ≡ true → is_among (implied_by c) d ≡ true → gives bs d ≡ true
gives-closed [] c d e f = cc
gives-closed (b ∷ bs) c d e f =
    elim (or_parts (is_among (all_of b) c) (gives bs c) e) [
      | inl p ↦ or_left (is_among (all_of b) d) (gives bs d) (closed-at (all_of b) (all_of b) c d (all_of-closed b) p f)
      | inr p ↦ or_right (is_among (all_of b) d) (gives bs d) (gives-closed bs c d p f)
    ]

self_among : (b : Class) → is_among (all_of b) b ≡ true
self_among b = rw (all_of-head b, nat_eq-self (class_key b)) refl

gives-among : (bs : List Class) (c : Class) → is_among bs c ≡ true → gives bs c ≡ true
gives-among [] c e = cc
gives-among (b ∷ bs) c e =
    elim (or_parts (class_same b c) (is_among bs c) e) [
      | inl p ↦ or_left (is_among (all_of b) c) (gives bs c) (subst (λ x. is_among (all_of b) x ≡ true) (class_same-equal b c p) (self_among b))
      | inr p ↦ or_right (is_among (all_of b) c) (gives bs c) (gives-among bs c p)
    ]

instance_gives-closed : (x : Declaration) (s : Sort) (c d : Class) → instance_gives x s c ≡ true → is_among (implied_by c) d ≡ true → instance_gives x s d ≡ true
instance_gives-closed (Carrier n) s c d e f = cc
instance_gives-closed (Instance k b) s c d e f =
    let h = and_parts (is_decl s k) (is_among (all_of b) c) e in
    rw (h.0, closed-at (all_of b) (all_of b) c d (all_of-closed b) h.1 f) refl
instance_gives-closed (Variable n t) s c d e f = cc
instance_gives-closed (Function n ts t) s c d e f = cc
instance_gives-closed (Hypothesis n h) s c d e f = cc

instances_give-closed : (ds : List Declaration) (s : Sort) (c d : Class) → instances_give ds s c ≡ true → is_among (implied_by c) d ≡ true → instances_give ds s d ≡ true
instances_give-closed [] s c d e f = cc
instances_give-closed (x ∷ xs) s c d e f =
    elim (or_parts (instance_gives x s c) (instances_give xs s c) e) [
      | inl p ↦ or_left (instance_gives x s d) (instances_give xs s d) (instance_gives-closed x s c d p f)
      | inr p ↦ or_right (instance_gives x s d) (instances_give xs s d) (instances_give-closed xs s c d p f)
    ]

instance_gives-declared : (x : Declaration) (k : ℕ) (c : Class) → is_instance x k c ≡ true → instance_gives x (Decl k) c ≡ true
instance_gives-declared (Carrier n) k c e = cc
instance_gives-declared (Instance j b) k c e =
    let h = and_parts (nat_eq k j) (class_same b c) e in
    rw (h.0) (subst (λ x. is_among (all_of b) x ≡ true) (class_same-equal b c h.1) (self_among b))
instance_gives-declared (Variable n t) k c e = cc
instance_gives-declared (Function n ts t) k c e = cc
instance_gives-declared (Hypothesis n h) k c e = cc

instances_give-declared : (ds : List Declaration) (k : ℕ) (c : Class) → declares_instance ds k c ≡ true → instances_give ds (Decl k) c ≡ true
instances_give-declared [] k c e = cc
instances_give-declared (x ∷ xs) k c e =
    elim (or_parts (is_instance x k c) (declares_instance xs k c) e) [
      | inl p ↦ or_left (instance_gives x (Decl k) c) (instances_give xs (Decl k) c) (instance_gives-declared x k c p)
      | inr p ↦ or_right (instance_gives x (Decl k) c) (instances_give xs (Decl k) c) (instances_give-declared xs k c p)
    ]

-- whatever a sort has passes the test
pub has_class-complete : (ds : List Declaration) (s : Sort) (c : Class) → Has ds s c → has_class ds s c ≡ true
has_class-complete ds _ _ (built_in s c e) = or_left (gives (own_classes s) c) (instances_give ds s c) (gives-among (own_classes s) c e)
has_class-complete ds _ _ (declares k c e) = instances_give-declared ds k c e
has_class-complete ds _ _ (implied s c d h e) =
    elim (or_parts (gives (own_classes s) c) (instances_give ds s c) (has_class-complete ds s c h)) [
      | inl p ↦ or_left (gives (own_classes s) d) (instances_give ds s d) (gives-closed (own_classes s) c d p e)
      | inr p ↦ or_right (gives (own_classes s) d) (instances_give ds s d) (instances_give-closed ds s c d p e)
    ]

module _ (ds : List Declaration) (s : Sort) where
  abbrev pub HaveAll : List Class → Type 0
  HaveAll cs = (c : Class) → is_among cs c ≡ true → Has ds s c

  one_implies : (seen : List Class) (c : Class) → HaveAll seen → implied_by_one seen c ≡ true → Has ds s c
  one_implies [] c h e = cc
  one_implies (b ∷ bs) c h e =
      elim (or_parts (is_among (implied_by b) c) (implied_by_one bs c) e) [
        | inl p ↦ implied s b c (h b (or_left (class_same b b) (is_among bs b) (nat_eq-self (class_key b)))) p
        | inr p ↦ one_implies bs c (λ x q. h x (or_right (class_same b x) (is_among bs x) q)) p
      ]

  HaveAll-cons : (c : Class) (cs : List Class) → Has ds s c → HaveAll cs → HaveAll (c ∷ cs)
  HaveAll-cons c cs h k x e =
      elim (or_parts (class_same c x) (is_among cs x) e) [
        | inl p ↦ subst (λ y. Has ds s y) (class_same-equal c x p) h
        | inr p ↦ k x p
      ]

  chained-have : (seen cs : List Class) → HaveAll seen → chained seen cs ≡ true → HaveAll cs
  chained-have seen [] h e = λ c f. cc
  chained-have seen (c ∷ cs) h e =
      let k = and_parts (implied_by_one seen c) (chained (c ∷ seen) cs) e in
      let here : Has ds s c = one_implies seen c h k.0 in
      HaveAll-cons c cs here (chained-have (c ∷ seen) cs (HaveAll-cons c seen here h) k.1)

  all_of-have : (b : Class) → Has ds s b → HaveAll (all_of b)
  all_of-have b h =
      let alone : HaveAll (b ∷ []) = HaveAll-cons b [] h (λ c f. cc) in
      rw (all_of-head b) (HaveAll-cons b (tail_of (all_of b)) h (chained-have (b ∷ []) (tail_of (all_of b)) alone (all_of-chained b)))

  -- what these classes give, the sort has where it has these
  pub gives-have : (bs : List Class) (c : Class) → HaveAll bs → gives bs c ≡ true → Has ds s c
  gives-have [] c h e = cc
  gives-have (b ∷ bs) c h e =
      elim (or_parts (is_among (all_of b) c) (gives bs c) e) [
        | inl p ↦ all_of-have b (h b (or_left (class_same b b) (is_among bs b) (nat_eq-self (class_key b)))) c p
        | inr p ↦ gives-have bs c (λ x q. h x (or_right (class_same b x) (is_among bs x) q)) p
      ]

is_decl-equal : (s : Sort) (k : ℕ) → is_decl s k ≡ true → s ≡ Decl k
is_decl-equal Nat k e = cc
is_decl-equal Int k e = cc
is_decl-equal Rat k e = cc
is_decl-equal (Decl j) k e = ap Decl (same_number j k e)

instances_give-sound : (ds xs : List Declaration) (s : Sort) (c : Class) → ((k : ℕ) (b : Class) → declares_instance xs k b ≡ true → declares_instance ds k b ≡ true) → instances_give xs s c ≡ true → Has ds s c
instances_give-sound ds [] s c h e = cc
instances_give-sound ds (x ∷ xs) s c h e =
    elim (or_parts (instance_gives x s c) (instances_give xs s c) e) [
      | inl p ↦ one x (λ k b q. h k b (or_left (is_instance x k b) (declares_instance xs k b) q)) p
      | inr p ↦ instances_give-sound ds xs s c (λ k b q. h k b (or_right (is_instance x k b) (declares_instance xs k b) q)) p
    ]
  where
    one : (x : Declaration) → ((k : ℕ) (b : Class) → is_instance x k b ≡ true → declares_instance ds k b ≡ true) → instance_gives x s c ≡ true → Has ds s c
    one (Carrier n) h e = cc
    one (Instance k b) h e =
        let q = and_parts (is_decl s k) (is_among (all_of b) c) e in
        let here : declares_instance ds k b ≡ true = h k b (rw (nat_eq-self k, nat_eq-self (class_key b)) refl) in
        all_of-have ds s b (subst (λ t. Has ds t b) (sym (is_decl-equal s k q.0)) (declares k b here)) c q.1
    one (Variable n t) h e = cc
    one (Function n ts t) h e = cc
    one (Hypothesis n g) h e = cc

pub has_class-sound : (ds : List Declaration) (s : Sort) (c : Class) → has_class ds s c ≡ true → Has ds s c
has_class-sound ds s c e =
    elim (or_parts (gives (own_classes s) c) (instances_give ds s c) e) [
      | inl p ↦ gives-have ds s (own_classes s) c (λ x q. built_in s x q) p
      | inr p ↦ instances_give-sound ds ds s c (λ k b q. q) p
    ]

pub has_class-decides : (ds : List Declaration) (s : Sort) (c : Class) (r : Bool) → r ≡ has_class ds s c → IsTrue r ↔ Has ds s c
has_class-decides ds s c r e = (λ t. has_class-sound ds s c (sym e ∙ t), λ h. e ∙ has_class-complete ds s c h)

-- a sort has what its classes imply at once
pub has_class-implied : (ds : List Declaration) (s : Sort) (c d : Class) → is_among (implied_by c) d ≡ true → has_class ds s c ≡ true → has_class ds s d ≡ true
has_class-implied ds s c d e h = has_class-complete ds s d (implied s c d (has_class-sound ds s c h) e)

-- and all that follows from them
pub has_class-all : (ds : List Declaration) (s : Sort) (c d : Class) → is_among (all_of c) d ≡ true → has_class ds s c ≡ true → has_class ds s d ≡ true
has_class-all ds s c d e h = has_class-complete ds s d (all_of-have ds s c (has_class-sound ds s c h) d e)
