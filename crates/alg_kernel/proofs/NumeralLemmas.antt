-- Numerals one by one.
use Rattle.std.proofs.Common.{◌≡◌, ℕ, zero, suc, ◌+◌, ◌^◌, ◌<◌, List, [], ◌∷◌, ◌++◌, get_or, length, take, drop, drop-cons, map, refl, ap, sym, ◌∙◌, arith, add-one, All, true}
use Rattle.std.proofs.Common.{to_z, of_z}
use Rattle.std.proofs.lemmas.Int.{to_z-of_z, fits_signed_from_abs}
use Rattle.std.specs.Int.{w128}
use Rattle.std.specs.Prelude.{ℤ, pos, negsuc, unsigned_abs, nat_lt}
use Rattle.std.proofs.lemmas.Bool.{and_parts}
use Rattle.std.proofs.lemmas.Bool.Decides.{nat_tests}
use Rattle.std.proofs.lemmas.List.{map-append, take_more}
use Rattle.std.proofs.lemmas.List.Elements.{All-push}
use Rattle.alg_num.specs.Range.{InRange}
use Rattle.alg_terms.specs.declared.sorts.Sort.{Sort}
use Rattle.alg_terms.specs.Tree.{Tree, sort_of_tree}
use Rattle.alg_expr.specs.declared.ids.ExprId.{ExprId}
use Rattle.alg_expr.specs.Ids.{tree_of, trees_at, IsIn}
use Rattle.alg_expr.specs.Arena.{Extends, Imports}
use Rattle.alg_expr.specs.Applying.{sorts_at}
use Rattle.alg_law.specs.Declarations.{Declaration}
use Rattle.alg_proof.specs.Computations.{numeral_at, numerals_at, has_numeral, has_numerals, is_small_integer, are_small, sorts_like}
use Rattle.alg_kernel.proofs.TreeLemmas.{trees_at-extends, All-IsIn-extends}

pub numerals-next : (ds : List Declaration) (s : Sort) (xs : List ℤ) (i : ℕ) (d : ℤ) → i < length xs → has_numeral ds s (get_or xs i d) ≡ true → has_numerals ds s (drop i xs) ≡ has_numerals ds s (drop (i + 1) xs)
numerals-next ds s xs i d l e = rw (drop-cons xs i d l, e, add-one) refl

small-is : (x : ℤ) → is_small_integer x ≡ true → InRange x
small-is x e = below (unsigned_abs x) e
  where
    below : (n : ℕ) → nat_lt n (2 ^ 127) ≡ true → n < 2 ^ 127
    below n e = grind (arith, nat_tests)

pub all-small : (xs : List ℤ) → are_small xs ≡ true → All InRange xs
all-small [] e = λ k d l. absurd (omega (arith, l))
all-small (x ∷ xs) e =
    let p = and_parts (is_small_integer x) (are_small xs) e in
    cons x xs (small-is x p.0) (all-small xs p.1)
  where
    cons : (x : ℤ) (xs : List ℤ) → InRange x → All InRange xs → All InRange (x ∷ xs)
    cons x xs h k zero d l = h
    cons x xs h k (suc n) d l = k n d (omega (arith, l))

pub numerals-more : (t1 t2 : List Tree) (s : Sort) (xs : List ℤ) (i : ℕ) (d : ℤ) (es new : List ExprId) (e : ExprId) → i < length xs → Imports t1 t2 e (numeral_at s (get_or xs i d)) → All (IsIn t1) es → new ≡ es ++ e ∷ [] → trees_at t1 es ≡ numerals_at s (take i xs)
    → trees_at t2 new ≡ numerals_at s (take (i + 1) xs)
numerals-more t1 t2 s xs i d es new e l m h is f =
    let a : trees_at t2 new ≡ trees_at t2 es ++ tree_of t2 e ∷ [] = ap (trees_at t2) is ∙ map-append (tree_of t2) es (e ∷ []) in
    let b : trees_at t2 es ≡ numerals_at s (take i xs) = trees_at-extends t1 t2 es m.keeps h ∙ f in
    let more : take (i + 1) xs ≡ take i xs ++ get_or xs i d ∷ [] = take_more xs i d l in
    let g : numerals_at s (take (i + 1) xs) ≡ numerals_at s (take i xs) ++ numeral_at s (get_or xs i d) ∷ [] = ap (numerals_at s) more ∙ map-append (numeral_at s) (take i xs) (get_or xs i d ∷ []) in
    a ∙ (λ j. b j ++ m.tree j ∷ []) ∙ sym g

pub ids-more : (t1 t2 : List Tree) (es new : List ExprId) (e : ExprId) → Extends t1 t2 → IsIn t2 e → All (IsIn t1) es → new ≡ es ++ e ∷ [] → All (IsIn t2) new
ids-more t1 t2 es new e x h k is = rw is (All-push (IsIn t2) es e (All-IsIn-extends t1 t2 es x k) h)

numeral-sort : (s : Sort) (x : ℤ) → sort_of_tree (numeral_at s x) ≡ s
numeral-sort s (pos n) = refl
numeral-sort s (negsuc n) = refl

sorts-of : (s : Sort) (xs : List ℤ) → map sort_of_tree (numerals_at s xs) ≡ sorts_like s xs
sorts-of s [] = refl
sorts-of s (x ∷ xs) = λ i. numeral-sort s x i ∷ sorts-of s xs i

sorts-at : (ts : List Tree) (es : List ExprId) → sorts_at ts es ≡ map sort_of_tree (trees_at ts es)
sorts-at ts [] = refl
sorts-at ts (e ∷ es) = ap (λ ss. sort_of_tree (tree_of ts e) ∷ ss) (sorts-at ts es)

pub numerals-sorts : (ts : List Tree) (es : List ExprId) (s : Sort) (xs : List ℤ) → trees_at ts es ≡ numerals_at s xs → sorts_at ts es ≡ sorts_like s xs
numerals-sorts ts es s xs e = sorts-at ts es ∙ ap (map sort_of_tree) e ∙ sorts-of s xs

pub copies-more : (ts : List Tree) (xs : List ℤ) (i : ℕ) (es new : List ExprId) (e : ExprId) → i < length xs → new ≡ es ++ e ∷ [] → sorts_at ts es ≡ sorts_like (sort_of_tree (tree_of ts e)) (take i xs) → sorts_at ts new ≡ sorts_like (sort_of_tree (tree_of ts e)) (take (i + 1) xs)
copies-more ts xs i es new e l is f =
    let s : Sort = sort_of_tree (tree_of ts e) in
    let a : sorts_at ts new ≡ sorts_at ts es ++ s ∷ [] = ap (sorts_at ts) is ∙ map-append (λ (x : ExprId). sort_of_tree (tree_of ts x)) es (e ∷ []) in
    let g : sorts_like s (take (i + 1) xs) ≡ sorts_like s (take i xs) ++ s ∷ [] = ap (sorts_like s) (take_more xs i (pos 0) l) ∙ map-append (λ (x : ℤ). s) (take i xs) (get_or xs i (pos 0) ∷ []) in
    a ∙ (λ j. f j ++ s ∷ []) ∙ sym g

pub ids-push : (ts : List Tree) (es new : List ExprId) (e : ExprId) → IsIn ts e → All (IsIn ts) es → new ≡ es ++ e ∷ [] → All (IsIn ts) new
ids-push ts es new e h k is = rw is (All-push (IsIn ts) es e k h)

pub cast_back : (z : ℤ) → InRange z → to_z w128 (of_z w128 z) ≡ z
cast_back z h = to_z-of_z w128 z (fits_signed_from_abs w128 z h)
