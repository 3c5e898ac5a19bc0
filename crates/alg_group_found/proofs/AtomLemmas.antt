-- The distinct trees of two lists together.
use Rattle.std.proofs.Common.{◌≡◌, ℕ, suc, Bool, true, false, cond, ◌||◌, List, [], ◌∷◌, ◌++◌, reverse, length, append_assoc, refl, sym, ap, ◌∙◌, subst, arith}
use Rattle.std.proofs.lemmas.List.{reverse-append, length-reverse}
use Rattle.alg_terms.specs.Tree.{Tree}
use Rattle.alg_terms.specs.Order.{tree_same}
use Rattle.alg_terms.proofs.OrderLaws.{tree_same-equal}
use Rattle.alg_group_words.specs.Limits.{is_there, distinct}
use Rattle.alg_group_found.specs.Atoms.{apart, once}

or-assoc : (a b c : Bool) → (a || (b || c)) ≡ ((a || b) || c)
or-assoc true b c = refl
or-assoc false b c = refl

or-swap : (a b : Bool) → (a || b) ≡ (b || a)
or-swap true true = refl
or-swap true false = refl
or-swap false true = refl
or-swap false false = refl

there-append : (a : Tree) (xs ys : List Tree) → is_there a (xs ++ ys) ≡ (is_there a xs || is_there a ys)
there-append a [] ys = refl
there-append a (x ∷ xs) ys = ap (λ (b : Bool). tree_same a x || b) (there-append a xs ys) ∙ or-assoc (tree_same a x) (is_there a xs) (is_there a ys)

-- ---- each once
skip-there : (a x : Tree) (xs : List Tree) (b : Bool) → is_there x xs ≡ true → tree_same a x ≡ b → is_there a xs ≡ (b || is_there a xs)
skip-there a x xs true h e = subst (λ (y : Tree). is_there y xs ≡ true) (sym (tree_same-equal a x e)) h
skip-there a x xs false h e = refl

there-cases : (a x : Tree) (xs : List Tree) (b : Bool) → is_there x xs ≡ b → is_there a (distinct xs) ≡ is_there a xs → is_there a (cond b (distinct xs) (x ∷ distinct xs)) ≡ (tree_same a x || is_there a xs)
there-cases a x xs true h e = e ∙ skip-there a x xs (tree_same a x) h refl
there-cases a x xs false h e = ap (λ (b : Bool). tree_same a x || b) e

there-distinct : (a : Tree) (xs : List Tree) → is_there a (distinct xs) ≡ is_there a xs
there-distinct a [] = refl
there-distinct a (x ∷ xs) = there-cases a x xs (is_there x xs) refl (there-distinct a xs)

apart-cases : (x : Tree) (xs ys : List Tree) (q : Bool) → distinct (xs ++ ys) ≡ apart (distinct xs) ys ++ distinct ys → cond q (distinct (xs ++ ys)) (x ∷ distinct (xs ++ ys)) ≡ cond q (apart (distinct xs) ys) (x ∷ apart (distinct xs) ys) ++ distinct ys
apart-cases x xs ys true e = e
apart-cases x xs ys false e = ap (λ (zs : List Tree). x ∷ zs) e

distinct-cases : (x : Tree) (xs ys : List Tree) (p : Bool) → is_there x xs ≡ p → distinct (xs ++ ys) ≡ apart (distinct xs) ys ++ distinct ys
    → cond (p || is_there x ys) (distinct (xs ++ ys)) (x ∷ distinct (xs ++ ys)) ≡ apart (cond p (distinct xs) (x ∷ distinct xs)) ys ++ distinct ys
distinct-cases x xs ys true h e = e
distinct-cases x xs ys false h e = apart-cases x xs ys (is_there x ys) e

distinct-append : (xs ys : List Tree) → distinct (xs ++ ys) ≡ apart (distinct xs) ys ++ distinct ys
distinct-append [] ys = refl
distinct-append (x ∷ xs) ys =
    ap (λ (b : Bool). cond b (distinct (xs ++ ys)) (x ∷ distinct (xs ++ ys))) (there-append x xs ys)
    ∙ distinct-cases x xs ys (is_there x xs) refl (distinct-append xs ys)

-- ---- from the last one on
reverse-cons : (x : Tree) (xs : List Tree) → reverse (x ∷ xs) ≡ reverse xs ++ x ∷ []
reverse-cons x xs = reverse-append (x ∷ []) xs

there-reverse : (a : Tree) (xs : List Tree) → is_there a (reverse xs) ≡ is_there a xs
there-reverse a [] = refl
there-reverse a (x ∷ xs) =
    ap (is_there a) (reverse-cons x xs)
    ∙ there-append a (reverse xs) (x ∷ [])
    ∙ or-swap (is_there a (reverse xs)) (tree_same a x || false)
    ∙ ap (λ (b : Bool). b || is_there a (reverse xs)) (or-swap (tree_same a x) false)
    ∙ ap (λ (b : Bool). tree_same a x || b) (there-reverse a xs)

cond-append : (x : Tree) (b : Bool) (xs us : List Tree) → cond b (xs ++ us) (x ∷ (xs ++ us)) ≡ cond b xs (x ∷ xs) ++ us
cond-append x true xs us = refl
cond-append x false xs us = refl

pub apart-append : (xs us ys : List Tree) → apart (xs ++ us) ys ≡ apart xs ys ++ apart us ys
apart-append [] us ys = refl
apart-append (x ∷ xs) us ys =
    ap (λ (zs : List Tree). cond (is_there x ys) zs (x ∷ zs)) (apart-append xs us ys)
    ∙ cond-append x (is_there x ys) (apart xs ys) (apart us ys)

cond-reverse : (x : Tree) (b : Bool) (xs : List Tree) → reverse (cond b xs (x ∷ xs)) ≡ reverse xs ++ cond b [] (x ∷ [])
cond-reverse x true xs = sym (append-none (reverse xs))
  where
    append-none : (zs : List Tree) → zs ++ [] ≡ zs
    append-none [] = refl
    append-none (z ∷ zs) = ap (λ (us : List Tree). z ∷ us) (append-none zs)
cond-reverse x false xs = reverse-cons x xs

pub apart-reverse : (xs ys : List Tree) → reverse (apart xs ys) ≡ apart (reverse xs) ys
apart-reverse [] ys = refl
apart-reverse (x ∷ xs) ys =
    cond-reverse x (is_there x ys) (apart xs ys)
    ∙ ap (λ (zs : List Tree). zs ++ cond (is_there x ys) [] (x ∷ [])) (apart-reverse xs ys)
    ∙ sym (apart-append (reverse xs) (x ∷ []) ys)
    ∙ sym (ap (λ (zs : List Tree). apart zs ys) (reverse-cons x xs))

apart-same : (xs ys zs : List Tree) → ((a : Tree) → is_there a ys ≡ is_there a zs) → apart xs ys ≡ apart xs zs
apart-same [] ys zs h = refl
apart-same (x ∷ xs) ys zs h =
    ap (λ (us : List Tree). cond (is_there x ys) us (x ∷ us)) (apart-same xs ys zs h)
    ∙ ap (λ (b : Bool). cond b (apart xs zs) (x ∷ apart xs zs)) (h x)

pub once-append : (xs ys : List Tree) → once (xs ++ ys) ≡ once ys ++ apart (once xs) (once ys)
unfolding once
once-append xs ys =
    ap reverse (distinct-append xs ys)
    ∙ reverse-append (apart (distinct xs) ys) (distinct ys)
    ∙ ap (λ (zs : List Tree). reverse (distinct ys) ++ zs)
    (apart-reverse (distinct xs) ys
    ∙ apart-same (reverse (distinct xs)) ys (reverse (distinct ys)) (λ a. sym (there-reverse a (distinct ys) ∙ there-distinct a ys)))

pub once-none : once [] ≡ []
unfolding once
once-none = refl

pub once-one : (t : Tree) → once (t ∷ []) ≡ t ∷ []
unfolding once
once-one t = refl

pub once-length : (ts : List Tree) → length (once ts) ≡ length (distinct ts)
unfolding once
once-length ts = length-reverse (distinct ts)
