-- Visits of the trees of a region.
use Rattle.std.proofs.Common.{◌≡◌, ℕ, ◌+◌, ◌<◌, List, [], ◌∷◌, ◌++◌, Bool, true, false, ◌&&◌, ◌||◌, drop, Option, Some, None, refl, ap, sym, ◌∙◌, subst, arith, append-nil, append_assoc}
use Rattle.std.specs.Prelude.{⊤}
use Rattle.alg_terms.specs.declared.sorts.Sort.{Sort}
use Rattle.alg_terms.specs.declared.symbols.Sym.{Sym}
use Rattle.alg_terms.specs.Tree.{Tree, Lit, Var, App, Trees, Nil, Cons, to_list}
use Rattle.alg_expr.specs.declared.ids.ExprId.{ExprId}
use Rattle.alg_expr.specs.Ids.{tree_of, IsIn}
use Rattle.alg_show.specs.declared.notation.Notation.{Notation}
use Rattle.alg_show.specs.Notation.{notation_of}
use Rattle.alg_show.specs.Knowing.{knows, knows_first, is_own, holds_first, holds_second}
use Rattle.alg_show.specs.Tasks.{parts_of, IsArgument, weigh, weigh_all}
use Rattle.alg_show.specs.Waiting.{any_knows, total, AllIn, waits, Visited}
use Rattle.alg_show.specs.Shows.{IsWritten}

-- the first of some trees, if there is one
abbrev pub FirstIs : List Tree → Trees → Option ExprId → Type 0
FirstIs ts Nil None = ⊤
FirstIs ts Nil (Some a) = ⊥
FirstIs ts (Cons x xs) None = ⊥
FirstIs ts (Cons x xs) (Some a) = (x ≡ tree_of ts a) × IsIn ts a

abbrev pub behind : Trees → Trees
behind Nil = Nil
behind (Cons x xs) = xs

pub first_is : (ts : List Tree) (e : ExprId) (f : Sym) (s : Sort) (xs : Trees) (o : Option ExprId) → tree_of ts e ≡ App f s xs → IsArgument ts e 0 o → FirstIs ts xs o
first_is ts e f s Nil None t h = tt
first_is ts e f s Nil (Some a) t h = let k : [] ≡ tree_of ts a ∷ drop 1 (parts_of (tree_of ts e)) = sym (ap parts_of t) ∙ h.0 in cc
first_is ts e f s (Cons x xs) None t h = let k : x ∷ to_list xs ≡ [] = sym (ap parts_of t) ∙ h in cc
first_is ts e f s (Cons x xs) (Some a) t h =
    let k : x ∷ to_list xs ≡ tree_of ts a ∷ drop 1 (parts_of (tree_of ts e)) = sym (ap parts_of t) ∙ h.0 in
    (cc, h.1)

pub second_is : (ts : List Tree) (e : ExprId) (f : Sym) (s : Sort) (xs : Trees) (o : Option ExprId) → tree_of ts e ≡ App f s xs → IsArgument ts e 1 o → FirstIs ts (behind xs) o
second_is ts e f s Nil None t h = tt
second_is ts e f s Nil (Some a) t h = let k : [] ≡ tree_of ts a ∷ drop 2 (parts_of (tree_of ts e)) = sym (ap (λ x. drop 1 (parts_of x)) t) ∙ h.0 in cc
second_is ts e f s (Cons x Nil) None t h = tt
second_is ts e f s (Cons x Nil) (Some a) t h = let k : [] ≡ tree_of ts a ∷ drop 2 (parts_of (tree_of ts e)) = sym (ap (λ x. drop 1 (parts_of x)) t) ∙ h.0 in cc
second_is ts e f s (Cons x (Cons y ys)) None t h = let k : y ∷ to_list ys ≡ [] = sym (ap (λ x. drop 1 (parts_of x)) t) ∙ h in cc
second_is ts e f s (Cons x (Cons y ys)) (Some a) t h =
    let k : y ∷ to_list ys ≡ tree_of ts a ∷ drop 2 (parts_of (tree_of ts e)) = sym (ap (λ x. drop 1 (parts_of x)) t) ∙ h.0 in
    (cc, h.1)

or_assoc : (x y z : Bool) → (x || (y || z)) ≡ ((x || y) || z)
or_assoc true y z = refl
or_assoc false y z = refl

or_false : (x : Bool) → (x || false) ≡ x
or_false true = refl
or_false false = refl

any_append : (ts : List Tree) (xs ys : List ExprId) → any_knows ts (xs ++ ys) ≡ (any_knows ts xs || any_knows ts ys)
any_append ts [] ys = refl
any_append ts (x ∷ xs) ys = ap (λ b. knows (tree_of ts x) || b) (any_append ts xs ys) ∙ or_assoc (knows (tree_of ts x)) (any_knows ts xs) (any_knows ts ys)

total_append : (ts : List Tree) (xs ys : List ExprId) → total ts (xs ++ ys) ≡ total ts xs + total ts ys
total_append ts [] ys = omega arith
total_append ts (x ∷ xs) ys = let e = total_append ts xs ys in omega arith

in_append : (ts : List Tree) (xs ys : List ExprId) → AllIn ts xs → AllIn ts ys → AllIn ts (xs ++ ys)
in_append ts [] ys h k = k
in_append ts (x ∷ xs) ys h k = (h.0, in_append ts xs ys h.1 k)

-- these wait in place of the tree
pub visited : (ts : List Tree) (e : ExprId) (old new ks : List ExprId) → new ≡ old ++ ks → knows (tree_of ts e) ≡ any_knows ts ks → total ts ks < weigh (tree_of ts e) → AllIn ts ks → Visited ts e false old new
visited ts e old new ks p k l i =
    record {
      same = ap (λ b. any_knows ts old || b) k ∙ sym (ap (any_knows ts) p ∙ any_append ts old ks);
      less = (let a = ap (total ts) p in let b = total_append ts old ks in omega arith);
      inside = λ h. subst (AllIn ts) (sym p) (in_append ts old ks h i);
    }

or_true : (x : Bool) → (x || true) ≡ true
or_true true = refl
or_true false = refl

some_weight : (t : Tree) → 0 < weigh t
some_weight (Lit s n) = omega arith
some_weight (Var d s) = omega arith
some_weight (App f s xs) = omega arith

-- a leaf was found at once
pub visited_known : (ts : List Tree) (e : ExprId) (old : List ExprId) → knows (tree_of ts e) ≡ true → Visited ts e true old old
visited_known ts e old k =
    record {
      same = ap (λ b. any_knows ts old || b) k ∙ or_true (any_knows ts old);
      less = (let a = some_weight (tree_of ts e) in omega arith);
      inside = λ h. h;
    }

pub visited_literal : (ts : List Tree) (e : ExprId) (old : List ExprId) (s : Sort) (n : ℕ) → tree_of ts e ≡ Lit s n → Visited ts e false old old
visited_literal ts e old s n t = visited ts e old old [] (sym (append-nil old)) (ap knows t) (some_weight (tree_of ts e)) tt

pub visited_variable : (ts : List Tree) (e : ExprId) (old : List ExprId) (d : ℕ) (s : Sort) → tree_of ts e ≡ Var d s → Visited ts e true old old
visited_variable ts e old d s t = visited_known ts e old (ap knows t)

pub visited_own : (ts : List Tree) (e : ExprId) (old : List ExprId) (n : Notation) → IsWritten (tree_of ts e) n → is_own n ≡ true → Visited ts e true old old
visited_own ts e old n w h =
    visited_known ts e old (ap knows w.compound ∙ ap (λ b. b || knows_first (notation_of w.symbol) w.parts) (sym (ap is_own w.notation) ∙ h))

-- the parts that belong to the region
abbrev first_part : Notation → Trees → Bool
first_part n Nil = false
first_part n (Cons x xs) = holds_first n && knows x

abbrev second_part : Notation → Trees → Bool
second_part n Nil = false
second_part n (Cons x xs) = holds_second n && knows x

parts_known : (n : Notation) (xs : Trees) → knows_first n xs ≡ (first_part n xs || second_part n (behind xs))
parts_known n Nil = refl
parts_known n (Cons x Nil) = refl
parts_known n (Cons x (Cons y ys)) = refl

waits_known : (ts : List Tree) (b : Bool) (x : Tree) (a : ExprId) → x ≡ tree_of ts a → (b && knows x) ≡ any_knows ts (waits b (Some a))
waits_known ts true x a e = ap knows e ∙ sym (or_false (knows (tree_of ts a)))
waits_known ts false x a e = refl

waits_none : (ts : List Tree) (b : Bool) → any_knows ts (waits b None) ≡ false
waits_none ts true = refl
waits_none ts false = refl

first_known : (ts : List Tree) (n : Notation) (xs : Trees) (o : Option ExprId) → FirstIs ts xs o → first_part n xs ≡ any_knows ts (waits (holds_first n) o)
first_known ts n Nil None h = sym (waits_none ts (holds_first n))
first_known ts n Nil (Some a) h = absurd h
first_known ts n (Cons x xs) None h = absurd h
first_known ts n (Cons x xs) (Some a) h = waits_known ts (holds_first n) x a h.0

second_known : (ts : List Tree) (n : Notation) (xs : Trees) (o : Option ExprId) → FirstIs ts xs o → second_part n xs ≡ any_knows ts (waits (holds_second n) o)
second_known ts n Nil None h = sym (waits_none ts (holds_second n))
second_known ts n Nil (Some a) h = absurd h
second_known ts n (Cons x xs) None h = absurd h
second_known ts n (Cons x xs) (Some a) h = waits_known ts (holds_second n) x a h.0

abbrev pub weight_first : Trees → ℕ
weight_first Nil = 0
weight_first (Cons x xs) = weigh x

waits_weight : (ts : List Tree) (b : Bool) (xs : Trees) (o : Option ExprId) → FirstIs ts xs o → total ts (waits b o) < weight_first xs + 1
waits_weight ts true Nil None h = omega arith
waits_weight ts false Nil None h = omega arith
waits_weight ts b Nil (Some a) h = absurd h
waits_weight ts b (Cons x xs) None h = absurd h
waits_weight ts true (Cons x xs) (Some a) h = let e = ap weigh h.0 in omega arith
waits_weight ts false (Cons x xs) (Some a) h = omega arith

waits_in : (ts : List Tree) (b : Bool) (xs : Trees) (o : Option ExprId) → FirstIs ts xs o → AllIn ts (waits b o)
waits_in ts true xs None h = tt
waits_in ts false xs o h = tt
waits_in ts true Nil (Some a) h = absurd h
waits_in ts true (Cons x xs) (Some a) h = (h.1, tt)

pub two_weights : (xs : Trees) → weight_first xs + weight_first (behind xs) < weigh_all xs + 1
two_weights Nil = omega arith
two_weights (Cons x Nil) = omega arith
two_weights (Cons x (Cons y ys)) = omega arith

pub visited_inside : (ts : List Tree) (e : ExprId) (old one new : List ExprId) (n : Notation) (a b : Option ExprId) → IsWritten (tree_of ts e) n → is_own n ≡ false → IsArgument ts e 0 a → IsArgument ts e 1 b → one ≡ old ++ waits (holds_first n) a → new ≡ one ++ waits (holds_second n) b → Visited ts e false old new
visited_inside ts e old one new n a b w h p q f g =
    let c = first_is ts e w.symbol w.sort w.parts a w.compound p in
    let d = second_is ts e w.symbol w.sort w.parts b w.compound q in
    let xs = w.parts in
    let ks = waits (holds_first n) a ++ waits (holds_second n) b in
    visited ts e old new ks
    (g ∙ (ap (λ x. x ++ waits (holds_second n) b) f ∙ append_assoc old (waits (holds_first n) a) (waits (holds_second n) b)))
    (ap knows w.compound
    ∙ (ap (λ m. is_own m || knows_first m xs) (sym w.notation)
    ∙ (ap (λ x. x || knows_first n xs) h
    ∙ (parts_known n xs
    ∙ (ap (λ x. x || second_part n (behind xs)) (first_known ts n xs a c)
    ∙ (ap (λ x. any_knows ts (waits (holds_first n) a) || x) (second_known ts n (behind xs) b d)
    ∙ sym (any_append ts (waits (holds_first n) a) (waits (holds_second n) b))))))))
    (let k = waits_weight ts (holds_first n) xs a c in
    let l = waits_weight ts (holds_second n) (behind xs) b d in
    let m = two_weights xs in
    let t = ap weigh w.compound in
    let u = total_append ts (waits (holds_first n) a) (waits (holds_second n) b) in
    omega arith)
    (in_append ts (waits (holds_first n) a) (waits (holds_second n) b) (waits_in ts (holds_first n) xs a c) (waits_in ts (holds_second n) (behind xs) b d))

-- ---- the loop

pub starts : (ts : List Tree) (e : ExprId) (ks ws : List ExprId) → ks ≡ [] → ws ≡ ks ++ waits true (Some e) → knows (tree_of ts e) ≡ any_knows ts ws
starts ts e ks ws p q = sym (ap (any_knows ts) (q ∙ ap (λ x. x ++ e ∷ []) p) ∙ or_false (knows (tree_of ts e)))

pub starts_in : (ts : List Tree) (e : ExprId) (ks ws : List ExprId) → ks ≡ [] → ws ≡ ks ++ waits true (Some e) → IsIn ts e → AllIn ts ws
starts_in ts e ks ws p q h = subst (AllIn ts) (sym (q ∙ ap (λ x. x ++ e ∷ []) p)) (h, tt)

pub popped_in : (ts : List Tree) (all rest : List ExprId) (e : ExprId) → all ≡ rest ++ e ∷ [] → AllIn ts all → AllIn ts rest × IsIn ts e
popped_in ts all rest e p h = go rest (subst (AllIn ts) p h)
  where
    go : (xs : List ExprId) → AllIn ts (xs ++ e ∷ []) → AllIn ts xs × IsIn ts e
    go [] k = (tt, k.0)
    go (x ∷ xs) k = let r = go xs k.1 in ((k.0, r.0), r.1)

popped_knows : (ts : List Tree) (all rest : List ExprId) (e : ExprId) → all ≡ rest ++ e ∷ [] → any_knows ts all ≡ (any_knows ts rest || knows (tree_of ts e))
popped_knows ts all rest e p = ap (any_knows ts) p ∙ (any_append ts rest (e ∷ []) ∙ ap (λ b. any_knows ts rest || b) (or_false (knows (tree_of ts e))))

pub found_now : (ts : List Tree) (all rest new : List ExprId) (e : ExprId) (t found : Bool) → t ≡ any_knows ts all → all ≡ rest ++ e ∷ [] → Visited ts e found rest new → found ≡ true → true ≡ t
found_now ts all rest new e t found h p l f = sym (h ∙ (popped_knows ts all rest e p ∙ (l.same ∙ ap (λ b. b || any_knows ts new) f)))

pub goes_on : (ts : List Tree) (all rest new : List ExprId) (e : ExprId) (t found : Bool) → t ≡ any_knows ts all → all ≡ rest ++ e ∷ [] → Visited ts e found rest new → found ≡ false → t ≡ any_knows ts new
goes_on ts all rest new e t found h p l f = h ∙ (popped_knows ts all rest e p ∙ (l.same ∙ ap (λ b. b || any_knows ts new) f))

pub smaller : (ts : List Tree) (all rest new : List ExprId) (e : ExprId) (found : Bool) → all ≡ rest ++ e ∷ [] → Visited ts e found rest new → total ts new < total ts all
smaller ts all rest new e found p l = let a = ap (total ts) p in let b = total_append ts rest (e ∷ []) in let c = l.less in omega arith
