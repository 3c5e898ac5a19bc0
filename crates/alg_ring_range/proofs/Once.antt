-- Lists of trees in which no tree stands twice.
use Rattle.std.proofs.Common.{◌≡◌, suc, ◌<◌, ◌≤◌, List, [], ◌∷◌, ◌++◌, length, refl, ap, sym, ◌∙◌, subst, arith, Bool, true, false}
use Rattle.std.specs.Prelude.{◌||◌, if◌then◌else◌}
use Rattle.alg_terms.specs.Tree.{Tree}
use Rattle.alg_terms.specs.Order.{tree_same}
use Rattle.alg_terms.proofs.OrderLaws.{tree_same-equal, tree_same-self}
use Rattle.alg_expansions.specs.Visited.{is_listed, distinct}
use Rattle.alg_ring_range.specs.Atoms.{AreOnce}

or_true : (a b : Bool) → a ≡ true → (a || b) ≡ true
or_true true b e = refl
or_true false b e = cc

or_second : (a b : Bool) → a ≡ false → (a || b) ≡ b
or_second true b e = cc
or_second false b e = refl

or_assoc : (a b c : Bool) → ((a || b) || c) ≡ (a || (b || c))
or_assoc true b c = refl
or_assoc false b c = refl

or_same : (a b : Bool) → b ≡ true → (a || b) ≡ true
or_same true b e = refl
or_same false b e = e

pub is_listed-append : (t : Tree) (us vs : List Tree) → is_listed t (us ++ vs) ≡ (is_listed t us || is_listed t vs)
is_listed-append t [] vs = refl
is_listed-append t (u ∷ us) vs = ap (λ b. tree_same u t || b) (is_listed-append t us vs) ∙ sym (or_assoc (tree_same u t) (is_listed t us) (is_listed t vs))

-- the list without a tree
abbrev kept_by : Bool → Tree → List Tree → List Tree
kept_by b u us = if b then us else u ∷ us

abbrev without : Tree → List Tree → List Tree
without t [] = []
without t (u ∷ us) = kept_by (tree_same u t) u (without t us)

shorter_by : (b : Bool) (u : Tree) (us vs : List Tree) → length us ≤ length vs → length (kept_by b u us) ≤ suc (length vs)
shorter_by true u us vs h = omega (arith, h)
shorter_by false u us vs h = omega (arith, h)

shorter : (t : Tree) (us : List Tree) → length (without t us) ≤ length us
shorter t [] = omega arith
shorter t (u ∷ us) = shorter_by (tree_same u t) u (without t us) us (shorter t us)

less_by : (b : Bool) (u t : Tree) (us : List Tree) → tree_same u t ≡ b → is_listed t (u ∷ us) ≡ true → (is_listed t us ≡ true → length (without t us) < length us) → length (kept_by b u (without t us)) < suc (length us)
less_by true u t us e h g = let s = shorter t us in omega (arith, s)
less_by false u t us e h g = let s = g (sym (or_second (tree_same u t) (is_listed t us) e) ∙ h) in omega (arith, s)

less : (t : Tree) (us : List Tree) → is_listed t us ≡ true → length (without t us) < length us
less t [] h = absurd (cc)
less t (u ∷ us) h = less_by (tree_same u t) u t us refl h (less t us)

left_by : (b c : Bool) (t x u : Tree) (us : List Tree) → tree_same u t ≡ b → tree_same u x ≡ c → tree_same t x ≡ false → (c || is_listed x us) ≡ true → (is_listed x us ≡ true → is_listed x (without t us) ≡ true) → is_listed x (kept_by b u (without t us)) ≡ true
left_by true true t x u us e f d h g = absurd (let s : u ≡ t = tree_same-equal u t e in let w : tree_same t x ≡ true = subst (λ v. tree_same v x ≡ true) s f in cc)
left_by true false t x u us e f d h g = g h
left_by false c t x u us e f d h g = go c f h
  where
    go : (c : Bool) → tree_same u x ≡ c → (c || is_listed x us) ≡ true → (tree_same u x || is_listed x (without t us)) ≡ true
    go true f h = or_true (tree_same u x) (is_listed x (without t us)) f
    go false f h = or_same (tree_same u x) (is_listed x (without t us)) (g h)

left : (t x : Tree) (us : List Tree) → tree_same t x ≡ false → is_listed x us ≡ true → is_listed x (without t us) ≡ true
left t x [] d h = cc
left t x (u ∷ us) d h = left_by (tree_same u t) (tree_same u x) t x u us refl refl d h (left t x us d)

-- x isn't t, where t isn't among trees of which x is one
apart : (t x : Tree) (ts : List Tree) (b : Bool) → tree_same t x ≡ b → is_listed t ts ≡ false → is_listed x ts ≡ true → tree_same t x ≡ false
apart t x ts false e n h = e
apart t x ts true e n h = absurd (let s : t ≡ x = tree_same-equal t x e in let w : is_listed t ts ≡ true = subst (λ v. is_listed v ts ≡ true) (sym s) h in cc)

pub no_longer : (ts us : List Tree) → AreOnce ts → ((x : Tree) → is_listed x ts ≡ true → is_listed x us ≡ true) → length ts ≤ length us
no_longer [] us h g = omega arith
no_longer (t ∷ ts) us h g =
    let here : is_listed t us ≡ true = g t (or_true (tree_same t t) (is_listed t ts) (tree_same-self t)) in
    let l = less t us here in
    let r = no_longer ts (without t us) h.1 (λ x e. left t x us (apart t x ts (tree_same t x) refl h.0 e) (g x (or_same (tree_same t x) (is_listed x ts) e))) in
    omega (arith, l, r)

-- the distinct trees

distinct_by : (b c : Bool) (t x : Tree) (ts : List Tree) → is_listed t ts ≡ b → tree_same t x ≡ c → is_listed x (distinct ts) ≡ is_listed x ts → is_listed x (if b then distinct ts else t ∷ distinct ts) ≡ (tree_same t x || is_listed x ts)
distinct_by true true t x ts e f h =
    let s : t ≡ x = tree_same-equal t x f in
    let w : is_listed x ts ≡ true = subst (λ v. is_listed v ts ≡ true) s e in
    h ∙ w ∙ sym (or_true (tree_same t x) (is_listed x ts) f)
distinct_by true false t x ts e f h = h ∙ sym (or_second (tree_same t x) (is_listed x ts) f)
distinct_by false c t x ts e f h = ap (λ b. tree_same t x || b) h

pub is_listed-distinct : (x : Tree) (ts : List Tree) → is_listed x (distinct ts) ≡ is_listed x ts
is_listed-distinct x [] = refl
is_listed-distinct x (t ∷ ts) = distinct_by (is_listed t ts) (tree_same t x) t x ts refl refl (is_listed-distinct x ts)

once_by : (b : Bool) (t : Tree) (ts : List Tree) → is_listed t ts ≡ b → AreOnce (distinct ts) → AreOnce (if b then distinct ts else t ∷ distinct ts)
once_by true t ts e h = h
once_by false t ts e h = (is_listed-distinct t ts ∙ e, h)

pub distinct-once : (ts : List Tree) → AreOnce (distinct ts)
distinct-once [] = tt
distinct-once (t ∷ ts) = once_by (is_listed t ts) t ts refl (distinct-once ts)

-- lists with the same trees, each once

pub at_most_distinct : (ts us : List Tree) → AreOnce ts → ((x : Tree) → is_listed x ts ≡ true → is_listed x us ≡ true) → length ts ≤ length (distinct us)
at_most_distinct ts us h g = no_longer ts (distinct us) h (λ x e. is_listed-distinct x us ∙ g x e)

pub as_many : (ts us : List Tree) → AreOnce ts → ((x : Tree) → is_listed x us ≡ is_listed x ts) → length ts ≡ length (distinct us)
as_many ts us h g =
    let p = at_most_distinct ts us h (λ x e. g x ∙ e) in
    let q = no_longer (distinct us) ts (distinct-once us) (λ x e. sym (g x) ∙ sym (is_listed-distinct x us) ∙ e) in
    omega (arith, p, q)
