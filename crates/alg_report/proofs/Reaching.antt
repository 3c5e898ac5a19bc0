-- How far a run has come, after one part of its plan and then another.
use Rattle.std.proofs.Common.{◌≡◌, ℕ, List, [], ◌∷◌, ◌++◌, refl, ap, sym, ◌∙◌, Bool, true, false, append_assoc, append-nil, inl, inr, subst}
use Rattle.std.specs.Prelude.{◌||◌, Option, Result, OnOk, Ok, Err, IsErr}
use Rattle.alg_host.specs.Host.{Told}
use Rattle.alg_report.specs.Effects.{Effects, Does, and_then, nothing, since_created}
use Rattle.alg_report.specs.Plan.{Event, Starts, Appends, Certifies, HandsOver, Says, IsWhole, AreWhole, IsPart, Reached, Did}
use Rattle.alg_report.proofs.Doing.{same_created, does_then, does_nothing}

or_assoc : (a b c : Bool) → ((a || b) || c) ≡ (a || (b || c))
or_assoc true b c = refl
or_assoc false b c = refl

pub then_assoc : (c d e : Effects) → and_then (and_then c d) e ≡ and_then c (and_then d e)
then_assoc c d e = simp (append_assoc, same_created, or_assoc)

since_nothing : (c : Bool) (a : List ℕ) → since_created c [] a ≡ a
since_nothing true a = refl
since_nothing false a = refl

pub nothing_then : (e : Effects) → and_then nothing e ≡ e
nothing_then e = simp since_nothing

or_false : (b : Bool) → (b || false) ≡ b
or_false true = refl
or_false false = refl

pub then_nothing : (e : Effects) → and_then e nothing ≡ e
then_nothing e = simp (append-nil, or_false)

part_nothing : (x : Event) → IsPart x nothing
part_nothing (Starts path) = inl refl
part_nothing (Appends bytes) = ([], (bytes, refl), refl)
part_nothing (Certifies number claim) = inl refl
part_nothing (HandsOver claim) = refl
part_nothing (Says bytes) = ([], (bytes, refl), refl)

reached_nothing : (xs : List Event) → Reached xs nothing
reached_nothing [] = refl
reached_nothing (x ∷ xs) = inl (part_nothing x)

reached_then : (xs ys : List Event) (d e : Effects) → AreWhole xs d → Reached ys e → Reached (xs ++ ys) (and_then d e)
reached_then [] ys d e w r = subst (λ (f : Effects). Reached ys f) (sym (ap (λ f. and_then f e) w ∙ nothing_then e)) r
reached_then (x ∷ xs) ys d e w r = inr (w.0, and_then w.1 e, w.2, reached_then xs ys w.1 e w.3 r, ap (λ f. and_then f e) w.4 ∙ then_assoc w.0 w.1 e)

pub whole_then : (xs ys : List Event) (d e : Effects) → AreWhole xs d → AreWhole ys e → AreWhole (xs ++ ys) (and_then d e)
whole_then [] ys d e w r = subst (λ (f : Effects). AreWhole ys f) (sym (ap (λ f. and_then f e) w ∙ nothing_then e)) r
whole_then (x ∷ xs) ys d e w r = (w.0, and_then w.1 e, w.2, whole_then xs ys w.1 e w.3 r, ap (λ f. and_then f e) w.4 ∙ then_assoc w.0 w.1 e)

reached_more : (xs ys : List Event) (d : Effects) → Reached xs d → Reached (xs ++ ys) d
reached_more [] ys d r = subst (λ (e : Effects). Reached ys e) (sym r) (reached_nothing ys)
reached_more (x ∷ xs) ys d (inl part) = inl part
reached_more (x ∷ xs) ys d (inr r) = inr (r.0, r.1, r.2, reached_more xs ys r.1 r.3, r.4)

pub whole_reached : (xs : List Event) (d : Effects) → AreWhole xs d → Reached xs d
whole_reached [] d w = w
whole_reached (x ∷ xs) d w = inr (w.0, w.1, w.2, whole_reached xs w.1 w.3, w.4)

-- one event alone

pub whole_one : (x : Event) (d : Effects) → IsWhole x d → AreWhole (x ∷ []) d
whole_one x d w = (d, nothing, w, refl, sym (then_nothing d))

reached_one : (x : Event) (d : Effects) → IsWhole x d → Reached (x ∷ []) d
reached_one x d w = inr (d, nothing, w, refl, sym (then_nothing d))

not_ok : {U F : Type 0} (s : Result U F) (P : Type 0) → IsErr s → OnOk s P
not_ok (Ok u) P bad = absurd (cc)
not_ok (Err f) P bad = tt

on_ok : {U F : Type 0} (s : Result U F) (P : Type 0) → P → OnOk s P
on_ok (Ok u) P p = p
on_ok (Err f) P p = tt

pub did_one : {U F : Type 0} (a b : Option Told) (x : Event) (d : Effects) (s : Result U F) → Does a b d → IsWhole x d → Did a b (x ∷ []) s
did_one a b x d s does w = record { effects = d; does = does; reached = reached_one x d w; all = on_ok s _ (whole_one x d w) }

pub did_part : {U F : Type 0} (a b : Option Told) (x : Event) (d : Effects) (s : Result U F) → IsErr s → Does a b d → IsPart x d → Did a b (x ∷ []) s
did_part a b x d s bad does p = record { effects = d; does = does; reached = inl p; all = not_ok s _ bad }

-- one plan and then another

whole_of : {T E : Type 0} (r : Result T E) (x : T) (P : Type 0) → r ≡ Ok x → OnOk r P → P
whole_of r x P is h = rw is at h

pub did_then : {T E U F : Type 0} (a b c : Option Told) (xs ys : List Event) (r : Result T E) (x : T) (s : Result U F) → r ≡ Ok x → Did a b xs r → Did b c ys s → Did a c (xs ++ ys) s
did_then a b c xs ys r x s is p q =
    let w : AreWhole xs p.effects = whole_of r x _ is p.all in
    record {
      effects = and_then p.effects q.effects;
      does = does_then a b c p.effects q.effects p.does q.does;
      reached = reached_then xs ys p.effects q.effects w q.reached;
      all = elim s as (λ v. OnOk v (AreWhole ys q.effects) → OnOk v (AreWhole (xs ++ ys) (and_then p.effects q.effects))) [
        | Ok u ↦ λ e. whole_then xs ys p.effects q.effects w e
        | Err f ↦ λ e. e
      ] q.all;
    }

-- an error ends the plan early
pub did_more : {T E U F : Type 0} (a b : Option Told) (xs ys : List Event) (r : Result T E) (s : Result U F) → IsErr s → Did a b xs r → Did a b (xs ++ ys) s
did_more a b xs ys r s bad p = record { effects = p.effects; does = p.does; reached = reached_more xs ys p.effects p.reached; all = not_ok s _ bad }

pub did_none : {U F : Type 0} (a b : Option Told) (xs : List Event) (s : Result U F) → IsErr s → b ≡ a → Did a b xs s
did_none a b xs s bad e = record { effects = nothing; does = e ∙ does_nothing a; reached = reached_nothing xs; all = not_ok s _ bad }

pub did_empty : {U F : Type 0} (a : Option Told) (s : Result U F) → Did a a [] s
did_empty a s = record { effects = nothing; does = does_nothing a; reached = refl; all = on_ok s _ refl }

-- the same for another result
pub did_err : {T E U F : Type 0} (a b : Option Told) (xs : List Event) (r : Result T E) (s : Result U F) → IsErr s → Did a b xs r → Did a b xs s
did_err a b xs r s bad p = record { effects = p.effects; does = p.does; reached = p.reached; all = not_ok s _ bad }

pub did_ok : {T E U F : Type 0} (a b : Option Told) (xs : List Event) (r : Result T E) (x : T) (s : Result U F) → r ≡ Ok x → Did a b xs r → Did a b xs s
did_ok a b xs r x s is p = record { effects = p.effects; does = p.does; reached = p.reached; all = on_ok s _ (whole_of r x _ is p.all) }

pub did_plan : {T E : Type 0} (a b : Option Told) (xs ys : List Event) (r : Result T E) → xs ≡ ys → Did a b xs r → Did a b ys r
did_plan a b xs ys r e p = subst (λ zs. Did a b zs r) e p
