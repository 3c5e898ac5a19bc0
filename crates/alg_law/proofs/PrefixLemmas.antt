-- A list that is the first of one and then another.
use Rattle.std.proofs.Common.{◌≡◌, ℕ, zero, suc, ◌+◌, ◌-◌, ◌<◌, ◌≤◌, Bool, true, false, ◌||◌, List, [], ◌∷◌, ◌++◌, length, take, refl, ap, sym, ◌∙◌, subst, arith, append_assoc, append-nil, slice_get, rules}
use Rattle.std.proofs.lemmas.List.{length-append, length-take-le}
use Rattle.alg_terms.specs.declared.sorts.Sort.{Sort}
use Rattle.alg_terms.specs.declared.sorts.Sort.TheVariants.{Nat, Int, Rat}
use Rattle.alg_terms.specs.Tree.{Statement}
use Rattle.alg_law.specs.declared.classes.Class.{Class}
use Rattle.alg_law.specs.Declarations.{Declaration, Carrier, Instance, Variable, Function, Hypothesis, hypotheses, with_hypothesis}
use Rattle.alg_law.specs.Following.{MayFollow, AllMayFollow, IsWellFormed}
use Rattle.alg_law.specs.Having.{instances_give, instance_gives}
use Rattle.alg_law.specs.Prefixes.{IsLending, line_at}

module _ {X : Type 0} where
  -- an element of the first of two lists, and one of the second
  pub slice_get-left : (xs ys : List X) (k : ℕ) → k < length xs → slice_get (xs ++ ys) k ≡ slice_get xs k
  slice_get-left [] ys k l = absurd (omega arith)
  slice_get-left (x ∷ xs) ys zero l = refl
  slice_get-left (x ∷ xs) ys (suc k) l = slice_get-left xs ys k (omega arith)

  pub slice_get-right : (xs ys : List X) (k : ℕ) → length xs ≤ k → slice_get (xs ++ ys) k ≡ slice_get ys (k - length xs)
  slice_get-right [] ys k l = let e : k ≡ k - 0 = omega arith in ap (λ j. slice_get ys j) e
  slice_get-right (x ∷ xs) ys zero l = absurd (omega arith)
  slice_get-right (x ∷ xs) ys (suc k) l =
      let e : k - length xs ≡ suc k - suc (length xs) = omega arith in
      slice_get-right xs ys k (omega arith) ∙ ap (λ j. slice_get ys j) e

with_hypothesis-append : (d : Declaration) (hs gs : List Statement) → with_hypothesis d (hs ++ gs) ≡ with_hypothesis d hs ++ gs
with_hypothesis-append d hs gs = search rules

pub hypotheses-append : (ds es : List Declaration) → hypotheses (ds ++ es) ≡ hypotheses ds ++ hypotheses es
hypotheses-append [] es = refl
hypotheses-append (d ∷ ds) es = ap (λ hs. with_hypothesis d hs) (hypotheses-append ds es) ∙ with_hypothesis-append d (hypotheses ds) (hypotheses es)

-- the hypotheses of a prefix are the first ones
taken : (d : Declaration) (n : ℕ) (ds : List Declaration) (i : ℕ) → ((j : ℕ) → j < length (hypotheses (take n ds)) → slice_get (hypotheses (take n ds)) j ≡ slice_get (hypotheses ds) j)
    → i < length (with_hypothesis d (hypotheses (take n ds))) → slice_get (with_hypothesis d (hypotheses (take n ds))) i ≡ slice_get (with_hypothesis d (hypotheses ds)) i
taken (Carrier x) n ds i h l = h i l
taken (Instance k c) n ds i h l = h i l
taken (Variable x s) n ds i h l = h i l
taken (Function x ss s) n ds i h l = h i l
taken (Hypothesis x g) n ds zero h l = refl
taken (Hypothesis x g) n ds (suc i) h l = h i (omega arith)

pub hypotheses-take : (n : ℕ) (ds : List Declaration) (i : ℕ) → i < length (hypotheses (take n ds)) → slice_get (hypotheses (take n ds)) i ≡ slice_get (hypotheses ds) i
hypotheses-take zero ds i l = absurd (omega arith)
hypotheses-take (suc n) [] i l = absurd (omega arith)
hypotheses-take (suc n) (d ∷ ds) i l = taken d n ds i (λ j m. hypotheses-take n ds j m) l

-- the hypotheses of a prefix and then of others
module _ (n : ℕ) (ds es : List Declaration) (i : ℕ) where
  pub hypothesis-first : i < length (hypotheses (take n ds)) → slice_get (hypotheses (take n ds ++ es)) i ≡ slice_get (hypotheses ds) i
  hypothesis-first l = ap (λ hs. slice_get hs i) (hypotheses-append (take n ds) es) ∙ slice_get-left (hypotheses (take n ds)) (hypotheses es) i l ∙ hypotheses-take n ds i l

  pub hypothesis-rest : length (hypotheses (take n ds)) ≤ i → slice_get (hypotheses (take n ds ++ es)) i ≡ slice_get (hypotheses es) (i - length (hypotheses (take n ds)))
  hypothesis-rest l = ap (λ hs. slice_get hs i) (hypotheses-append (take n ds) es) ∙ slice_get-right (hypotheses (take n ds)) (hypotheses es) i l

pub AllMayFollow-take : (n : ℕ) (ds es : List Declaration) → AllMayFollow ds es → AllMayFollow ds (take n es)
AllMayFollow-take zero ds es h = tt
AllMayFollow-take (suc n) ds [] h = tt
AllMayFollow-take (suc n) ds (e ∷ es) h = (h.0, AllMayFollow-take n (ds ++ e ∷ []) es h.1)

pub AllMayFollow-append : (ds es fs : List Declaration) → AllMayFollow ds es → AllMayFollow (ds ++ es) fs → AllMayFollow ds (es ++ fs)
AllMayFollow-append ds [] fs h m = subst (λ (x : List Declaration). AllMayFollow x fs) (append-nil ds) m
AllMayFollow-append ds (e ∷ es) fs h m =
    (h.0, AllMayFollow-append (ds ++ e ∷ []) es fs h.1 (subst (λ (x : List Declaration). AllMayFollow x fs) (sym (append_assoc ds (e ∷ []) es)) m))

or_assoc : (x y z : Bool) → (x || (y || z)) ≡ ((x || y) || z)
or_assoc x y z = search rules

pub instances_give-append : (ds es : List Declaration) (s : Sort) (c : Class) → instances_give (ds ++ es) s c ≡ (instances_give ds s c || instances_give es s c)
instances_give-append [] es s c = refl
instances_give-append (d ∷ ds) es s c = ap (λ b. instance_gives d s c || b) (instances_give-append ds es s c) ∙ or_assoc (instance_gives d s c) (instances_give ds s c) (instances_give es s c)

nothing-given : (d : Declaration) (c : Class) → (instance_gives d Nat c ≡ false) × (instance_gives d Int c ≡ false) × (instance_gives d Rat c ≡ false)
nothing-given d c = search rules

-- instances are of type variables alone
pub none_given : (ds : List Declaration) (c : Class) → (instances_give ds Nat c ≡ false) × (instances_give ds Int c ≡ false) × (instances_give ds Rat c ≡ false)
none_given [] c = (refl, refl, refl)
none_given (d ∷ ds) c =
    let h = nothing-given d c in
    let k = none_given ds c in
    (rw (h.0) k.0, rw (h.1) k.1, rw (h.2) k.2)

-- whether the first of two lists gives a class, or the second
module _ (ds es v : List Declaration) (e : ds ++ es ≡ v) (s : Sort) (c : Class) where
  pub given-first : (r : Bool) → r ≡ true → r ≡ instances_give ds s c → r ≡ instances_give v s c
  given-first r t f = t ∙ ap (λ b. b || instances_give es s c) (sym t ∙ f) ∙ sym (instances_give-append ds es s c) ∙ ap (λ x. instances_give x s c) e

  pub given-rest : (r q : Bool) → r ≡ false → r ≡ instances_give ds s c → q ≡ instances_give es s c → q ≡ instances_give v s c
  given-rest r q t f g = g ∙ ap (λ b. b || instances_give es s c) (sym t ∙ f) ∙ sym (instances_give-append ds es s c) ∙ ap (λ x. instances_give x s c) e

-- a line but the one before the first
pub line_at-before : (hs : List Statement) (n : ℕ) → (n ≡ 0 → ⊥) → line_at hs n ≡ slice_get hs (n - 1)
line_at-before hs zero z = absurd (z refl)
line_at-before hs (suc n) z = let e : n ≡ suc n - 1 = omega arith in ap (λ k. slice_get hs k) e

-- what a base keeps
pub IsLending-joined : (ds es : List Declaration) (n count : ℕ) → n ≤ length ds → n + length es < 4294967296 → count ≡ length (hypotheses (take n ds)) → IsWellFormed ds → AllMayFollow (take n ds) es → IsLending ds n count es
IsLending-joined ds es n count l r g h m =
    record { within = l; room = r; given = g; well_formed = AllMayFollow-append [] (take n ds) es (AllMayFollow-take n [] ds h) m }

pub IsLending-push : (ds es v : List Declaration) (n count : ℕ) (d : Declaration) → IsLending ds n count es → take n ds ++ es ≡ v → length v < 4294967295 → MayFollow v d → IsLending ds n count (es ++ d ∷ [])
IsLending-push ds es v n count d h e l m =
    let r : n + length es ≡ length v = omega (arith, ap length e, length-append (take n ds) es, length-take-le n ds h.within) in
    record {
      within = h.within;
      room = omega (arith, length-append es (d ∷ []));
      given = h.given;
      well_formed =
          subst IsWellFormed (append_assoc (take n ds) es (d ∷ []))
          (AllMayFollow-append [] (take n ds ++ es) (d ∷ []) h.well_formed (subst (λ (x : List Declaration). MayFollow x d) (sym e) m, tt));
    }
