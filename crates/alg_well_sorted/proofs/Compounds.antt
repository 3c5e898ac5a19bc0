-- When compound trees are well sorted.
use Rattle.std.proofs.Common.{◌≡◌, ℕ, suc, Bool, true, false, not, ◌&&◌, ◌||◌, nat_eq, List, [], ◌∷◌, length, map, refl, ap, sym, ◌∙◌, subst, arith}
use Rattle.std.proofs.lemmas.Bool.{and_parts}
use Rattle.std.proofs.lemmas.Bool.Decides.{nat_tests}
use Rattle.alg_terms.specs.declared.sorts.Sort.{Sort}
use Rattle.alg_terms.specs.declared.sorts.Sort.TheVariants.{Nat, Int, Rat, Decl}
use Rattle.alg_terms.specs.declared.symbols.Sym.{Sym}
use Rattle.alg_terms.specs.declared.symbols.Sym.TheVariants.{Add, Mul, Neg, Sub, Inv, Div, Npow, Zpow, Nsmul, Zsmul, Abs, Min, Max, NatSub, IDiv, Mod, Gcd, Lcm, Fact, Choose, Fib, Apply}
use Rattle.alg_terms.specs.declared.symbols.Place.{Place}
use Rattle.alg_terms.specs.declared.symbols.Place.TheVariants.{Same, OfNat, OfInt}
use Rattle.alg_terms.specs.Tree.{Tree, App, of_list, sort_of_tree}
use Rattle.alg_terms.specs.Order.{sort_same}
use Rattle.alg_terms.specs.Symbols.{is_built_in, places, serves, place_fits, places_fit, arguments_fit, is_integral}
use Rattle.alg_expr.specs.Applying.{arity_fits, sorts_fit}
use Rattle.alg_law.specs.declared.marks.Mark.TheVariants.{Good}
use Rattle.alg_law.specs.Declarations.{Declaration}
use Rattle.alg_law.specs.Following.{IsKnown}
use Rattle.alg_law.specs.WellSorted.{sort_mark, symbol_mark, built_in_mark, head_mark, has_classes, mark_of, marks_of, sorts_of, worse, IsWellSorted}
use Rattle.alg_law.proofs.WellSortedLaws.{worse-good}
use Rattle.alg_elaborate.specs.Operations.{power_of, multiple_of}
use Rattle.alg_elaborate.specs.TypedTrees.{tree_where, compound}
use Rattle.alg_well_sorted.specs.OfSort.{IsOfSort}
use Rattle.alg_well_sorted.proofs.Parts.{and_true, mark_true, mark_parts, same_sort}

pub tree_where-true : (b : Bool) (t : Tree) (k : Sort) → b ≡ true → tree_where b t k ≡ t
tree_where-true true t k e = refl
tree_where-true false t k e = cc

sorts_listed : (ts : List Tree) → sorts_of (of_list ts) ≡ map sort_of_tree ts
sorts_listed [] = refl
sorts_listed (t ∷ ts) = ap (λ ks. sort_of_tree t ∷ ks) (sorts_listed ts)

sorts_counted : (ts : List Tree) → length (map sort_of_tree ts) ≡ length ts
sorts_counted [] = refl
sorts_counted (t ∷ ts) = ap suc (sorts_counted ts)

built_in_marked : (ds : List Declaration) (f : Sym) (k : Sort) (ts : List Sort) → is_built_in f ≡ true → symbol_mark ds f k ts ≡ built_in_mark ds f k ts
built_in_marked ds Add k ts e = refl
built_in_marked ds Mul k ts e = refl
built_in_marked ds Neg k ts e = refl
built_in_marked ds Sub k ts e = refl
built_in_marked ds Inv k ts e = refl
built_in_marked ds Div k ts e = refl
built_in_marked ds Npow k ts e = refl
built_in_marked ds Zpow k ts e = refl
built_in_marked ds Nsmul k ts e = refl
built_in_marked ds Zsmul k ts e = refl
built_in_marked ds Abs k ts e = refl
built_in_marked ds Min k ts e = refl
built_in_marked ds Max k ts e = refl
built_in_marked ds NatSub k ts e = refl
built_in_marked ds IDiv k ts e = refl
built_in_marked ds Mod k ts e = refl
built_in_marked ds Gcd k ts e = refl
built_in_marked ds Lcm k ts e = refl
built_in_marked ds Fact k ts e = refl
built_in_marked ds Choose k ts e = refl
built_in_marked ds Fib k ts e = refl
built_in_marked ds (Apply j) k ts e = cc

placed : (f : Sym) (p : Place) (ps : List Place) → places f ≡ p ∷ ps → is_built_in f ≡ true
placed Add p ps e = refl
placed Mul p ps e = refl
placed Neg p ps e = refl
placed Sub p ps e = refl
placed Inv p ps e = refl
placed Div p ps e = refl
placed Npow p ps e = refl
placed Zpow p ps e = refl
placed Nsmul p ps e = refl
placed Zsmul p ps e = refl
placed Abs p ps e = refl
placed Min p ps e = refl
placed Max p ps e = refl
placed NatSub p ps e = refl
placed IDiv p ps e = refl
placed Mod p ps e = refl
placed Gcd p ps e = refl
placed Lcm p ps e = refl
placed Fact p ps e = refl
placed Choose p ps e = refl
placed Fib p ps e = refl
placed (Apply j) p ps e = cc

-- a built-in symbol whose places and classes fit
pub built_in_good : (ds : List Declaration) (f : Sym) (k : Sort) (ts : List Sort) → is_built_in f ≡ true → nat_eq (length (places f)) (length ts) ≡ true → places_fit (places f) k ts ≡ true → serves f k ≡ true → has_classes ds f k ≡ true → symbol_mark ds f k ts ≡ Good
built_in_good ds f k ts b n p v c =
    built_in_marked ds f k ts b
    ∙ mark_true (nat_eq (length (places f)) (length ts) && arguments_fit f k ts) (has_classes ds f k)
    (and_true (nat_eq (length (places f)) (length ts)) (arguments_fit f k ts) n (and_true (places_fit (places f) k ts) (serves f k) p v)) c

open_fits : (b c d : Bool) → b ≡ false → ((not b || c) && (not b || d)) ≡ true
open_fits true c d e = cc
open_fits false c d e = refl

closed_fits : (b c d : Bool) → c ≡ true → d ≡ true → ((not b || c) && (not b || d)) ≡ true
closed_fits true true true p q = refl
closed_fits true true false p q = cc
closed_fits true false d p q = cc
closed_fits false c d p q = refl

counted : (m n p : ℕ) → nat_eq m n ≡ true → n ≡ p → nat_eq p m ≡ true
counted m n p e h = grind (arith, nat_tests)

-- what is good can be made
fits : (ds : List Declaration) (f : Sym) (k : Sort) (ts : List Tree) → symbol_mark ds f k (map sort_of_tree ts) ≡ Good → (b : Bool) → is_built_in f ≡ b → (arity_fits f (length ts) && sorts_fit f k (map sort_of_tree ts)) ≡ true
fits ds f k ts h false e = open_fits (is_built_in f) (nat_eq (length ts) (length (places f))) (arguments_fit f k (map sort_of_tree ts)) e
fits ds f k ts h true e =
    let m = mark_parts (nat_eq (length (places f)) (length (map sort_of_tree ts)) && arguments_fit f k (map sort_of_tree ts)) (has_classes ds f k) (sym (built_in_marked ds f k (map sort_of_tree ts) e) ∙ h) in
    let p = and_parts (nat_eq (length (places f)) (length (map sort_of_tree ts))) (arguments_fit f k (map sort_of_tree ts)) m.0 in
    closed_fits (is_built_in f) (nat_eq (length ts) (length (places f))) (arguments_fit f k (map sort_of_tree ts))
    (counted (length (places f)) (length (map sort_of_tree ts)) (length ts) p.0 (sorts_counted ts)) p.1

-- a compound of well sorted trees
pub compound-good : (ds : List Declaration) (f : Sym) (k : Sort) (ts : List Tree) → IsKnown ds k → symbol_mark ds f k (map sort_of_tree ts) ≡ Good → marks_of ds (of_list ts) ≡ Good → IsOfSort ds k (compound f k ts)
compound-good ds f k ts known h m =
    let head : symbol_mark ds f k (sorts_of (of_list ts)) ≡ Good = ap (λ ls. symbol_mark ds f k ls) (sorts_listed ts) ∙ h in
    subst (λ t. IsOfSort ds k t) (sym (tree_where-true (arity_fits f (length ts) && sorts_fit f k (map sort_of_tree ts)) (App f k (of_list ts)) k (fits ds f k ts h (is_built_in f) refl)))
    record {
      good = worse-good (head_mark ds f k (sorts_of (of_list ts))) (marks_of ds (of_list ts)) (worse-good (sort_mark ds k) (symbol_mark ds f k (sorts_of (of_list ts))) known head) m;
      sort = refl;
    }

-- a symbol before one argument
pub unary-good : (ds : List Declaration) (f : Sym) (k : Sort) (x : Tree) → places f ≡ Same ∷ [] → (serves f k ≡ true) × (has_classes ds f k ≡ true) → IsKnown ds k → IsOfSort ds k x → IsOfSort ds k (compound f k (x ∷ []))
unary-good ds f k x p c known g =
    let fit : places_fit (places f) k (sort_of_tree x ∷ []) ≡ true = ap (λ ps. places_fit ps k (sort_of_tree x ∷ [])) p ∙ and_true (sort_same (sort_of_tree x) k) true (same_sort (sort_of_tree x) k g.sort) refl in
    compound-good ds f k (x ∷ []) known
    (built_in_good ds f k (sort_of_tree x ∷ []) (placed f Same [] p) (ap (λ ps. nat_eq (length ps) 1) p) fit c.0 c.1)
    (worse-good (mark_of ds x) Good g.good refl)

-- a symbol before two
pub pair-good : (ds : List Declaration) (f : Sym) (k : Sort) (p q : Place) (x y : Tree) → places f ≡ p ∷ q ∷ [] → (serves f k ≡ true) × (has_classes ds f k ≡ true) → IsKnown ds k → place_fits p k (sort_of_tree x) ≡ true → place_fits q k (sort_of_tree y) ≡ true → IsWellSorted ds x → IsWellSorted ds y → IsOfSort ds k (compound f k (x ∷ y ∷ []))
pair-good ds f k p q x y e c known h i g j =
    let fit : places_fit (places f) k (sort_of_tree x ∷ sort_of_tree y ∷ []) ≡ true = ap (λ ps. places_fit ps k (sort_of_tree x ∷ sort_of_tree y ∷ [])) e
    ∙ and_true (place_fits p k (sort_of_tree x)) (place_fits q k (sort_of_tree y) && true) h (and_true (place_fits q k (sort_of_tree y)) true i refl) in
    compound-good ds f k (x ∷ y ∷ []) known
    (built_in_good ds f k (sort_of_tree x ∷ sort_of_tree y ∷ []) (placed f p (q ∷ []) e) (ap (λ ps. nat_eq (length ps) 2) e) fit c.0 c.1)
    (worse-good (mark_of ds x) (worse (mark_of ds y) Good) g (worse-good (mark_of ds y) Good j refl))

pub binary-good : (ds : List Declaration) (f : Sym) (k : Sort) (x y : Tree) → places f ≡ Same ∷ Same ∷ [] → (serves f k ≡ true) × (has_classes ds f k ≡ true) → IsKnown ds k → IsOfSort ds k x → IsOfSort ds k y → IsOfSort ds k (compound f k (x ∷ y ∷ []))
binary-good ds f k x y p c known g h =
    pair-good ds f k Same Same x y p c known (same_sort (sort_of_tree x) k g.sort) (same_sort (sort_of_tree y) k h.sort) g.good h.good

pub power-good : (ds : List Declaration) (l k : Sort) (x e : Tree) → is_integral l ≡ true → (serves (power_of l) k ≡ true) × (has_classes ds (power_of l) k ≡ true) → IsKnown ds k → IsOfSort ds k x → IsOfSort ds l e → IsOfSort ds k (compound (power_of l) k (x ∷ e ∷ []))
power-good ds Nat k x e i c known g h = pair-good ds Npow k Same OfNat x e refl c known (same_sort (sort_of_tree x) k g.sort) (same_sort (sort_of_tree e) Nat h.sort) g.good h.good
power-good ds Int k x e i c known g h = pair-good ds Zpow k Same OfInt x e refl c known (same_sort (sort_of_tree x) k g.sort) (same_sort (sort_of_tree e) Int h.sort) g.good h.good
power-good ds Rat k x e i c known g h = cc
power-good ds (Decl d) k x e i c known g h = cc

pub multiple-good : (ds : List Declaration) (l k : Sort) (e x : Tree) → is_integral l ≡ true → (serves (multiple_of l) k ≡ true) × (has_classes ds (multiple_of l) k ≡ true) → IsKnown ds k → IsOfSort ds l e → IsOfSort ds k x → IsOfSort ds k (compound (multiple_of l) k (e ∷ x ∷ []))
multiple-good ds Nat k e x i c known h g = pair-good ds Nsmul k OfNat Same e x refl c known (same_sort (sort_of_tree e) Nat h.sort) (same_sort (sort_of_tree x) k g.sort) h.good g.good
multiple-good ds Int k e x i c known h g = pair-good ds Zsmul k OfInt Same e x refl c known (same_sort (sort_of_tree e) Int h.sort) (same_sort (sort_of_tree x) k g.sort) h.good g.good
multiple-good ds Rat k e x i c known h g = cc
multiple-good ds (Decl d) k e x i c known h g = cc
