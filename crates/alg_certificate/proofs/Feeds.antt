-- What is cut off is a line with its line feed.
use Rattle.std.proofs.Common.{◌≡◌, ◌≢◌, ℕ, Bool, true, false, List, [], ◌∷◌, ◌++◌, ◌==◌, if◌then◌else◌, refl, sym, ap, subst, ◌∙◌, eqb-true}
use Rattle.std.proofs.lemmas.Bool.{eqb-false}
use Rattle.alg_certificate.specs.Cutting.{Cut, cut, into}
use Rattle.alg_certificate.specs.Grammar.{HasNoFeed}
use Rattle.alg_certificate.proofs.CuttingLaws.{cut_feed}

pub record CutOff (bytes line : List ℕ) (lines : List (List ℕ)) (tail : List ℕ) : Type 0 where
  pub rest : List ℕ
  pub whole : bytes ≡ line ++ 10 ∷ rest
  pub plain : HasNoFeed line
  pub more : cut rest ≡ (lines, tail)

no_lines : (l : List ℕ) (ls : List (List ℕ)) → ◌≡◌ {A = List (List ℕ)} [] (l ∷ ls) → ⊥
no_lines l ls e = cc

first_is : (l m : List ℕ) (ls ms : List (List ℕ)) → ◌≡◌ {A = List (List ℕ)} (l ∷ ls) (m ∷ ms) → l ≡ m
first_is l m ls ms e = cc

others_are : (l m : List ℕ) (ls ms : List (List ℕ)) → ◌≡◌ {A = List (List ℕ)} (l ∷ ls) (m ∷ ms) → ls ≡ ms
others_are l m ls ms e = cc

moved : (bytes l m : List ℕ) (ls ms : List (List ℕ)) (t u : List ℕ) → ◌≡◌ {A = Cut} (l ∷ ls, t) (m ∷ ms, u) → CutOff bytes l ls t → CutOff bytes m ms u
moved bytes l m ls ms t u e h =
    let lines : ◌≡◌ {A = List (List ℕ)} (l ∷ ls) (m ∷ ms) = ap (λ (x : Cut). x.0) e in
    let last : t ≡ u = ap (λ (x : Cut). x.1) e in
    subst (λ x. CutOff bytes m ms x) last (subst (λ x. CutOff bytes m x t) (others_are l m ls ms lines) (subst (λ x. CutOff bytes x ls t) (first_is l m ls ms lines) h))

into_by : (c : ℕ) (cs : List ℕ) (x : Cut) (l : List ℕ) (ls : List (List ℕ)) (t : List ℕ) → cut cs ≡ x → c ≢ 10 → ((m : List ℕ) (ms : List (List ℕ)) (u : List ℕ) → cut cs ≡ (m ∷ ms, u) → CutOff cs m ms u) → into c x.0 x.1 ≡ (l ∷ ls, t) → CutOff (c ∷ cs) l ls t
into_by c cs ([], u) l ls t e d ih h = absurd (no_lines l ls (ap (λ (x : Cut). x.0) h))
into_by c cs (m ∷ ms, u) l ls t e d ih h =
    let r = ih m ms u e in
    moved (c ∷ cs) (c ∷ m) l ms ls u t h (record { rest = r.rest; whole = ap (λ x. c ∷ x) r.whole; plain = (d, r.plain); more = r.more })

add_by : (c : ℕ) (cs : List ℕ) (l : List ℕ) (ls : List (List ℕ)) (t : List ℕ) (b : Bool) → (c == 10) ≡ b → ((m : List ℕ) (ms : List (List ℕ)) (u : List ℕ) → cut cs ≡ (m ∷ ms, u) → CutOff cs m ms u)
    → if◌then◌else◌ {A = Cut} b ([] ∷ (cut cs).0, (cut cs).1) (into c (cut cs).0 (cut cs).1) ≡ (l ∷ ls, t) → CutOff (c ∷ cs) l ls t
add_by c cs l ls t true d ih h = moved (c ∷ cs) [] l (cut cs).0 ls (cut cs).1 t h (record { rest = cs; whole = ap (λ k. k ∷ cs) (eqb-true c 10 d); plain = tt; more = refl })
add_by c cs l ls t false d ih h = into_by c cs (cut cs) l ls t refl (eqb-false c 10 d) ih h

pub cut_off : (bytes l : List ℕ) (ls : List (List ℕ)) (t : List ℕ) → cut bytes ≡ (l ∷ ls, t) → CutOff bytes l ls t
unfolding cut
cut_off [] l ls t e = absurd (no_lines l ls (ap (λ (x : Cut). x.0) e))
cut_off (c ∷ cs) l ls t e = add_by c cs l ls t _ refl (λ m ms u h. cut_off cs m ms u h) e

all_by : (c : ℕ) (cs : List ℕ) (x : Cut) (t : List ℕ) → cut cs ≡ x → ((u : List ℕ) → cut cs ≡ ([], u) → cs ≡ u) → into c x.0 x.1 ≡ ([], t) → c ∷ cs ≡ t
all_by c cs ([], u) t e ih h = ap (λ x. c ∷ x) (ih u e) ∙ ap (λ (x : Cut). x.1) h
all_by c cs (m ∷ ms, u) t e ih h = absurd (no_lines (c ∷ m) ms (sym (ap (λ (x : Cut). x.0) h)))

none_by : (c : ℕ) (cs : List ℕ) (t : List ℕ) (b : Bool) → ((u : List ℕ) → cut cs ≡ ([], u) → cs ≡ u) → if◌then◌else◌ {A = Cut} b ([] ∷ (cut cs).0, (cut cs).1) (into c (cut cs).0 (cut cs).1) ≡ ([], t) → c ∷ cs ≡ t
none_by c cs t true ih h = absurd (no_lines [] (cut cs).0 (sym (ap (λ (x : Cut). x.0) h)))
none_by c cs t false ih h = all_by c cs (cut cs) t refl ih h

-- nothing is cut off
pub all_left : (bytes t : List ℕ) → cut bytes ≡ ([], t) → bytes ≡ t
unfolding cut
all_left [] t e = ap (λ (x : Cut). x.1) e
all_left (c ∷ cs) t e = none_by c cs t _ (λ u h. all_left cs u h) e

pub no_line : (bytes t line rest : List ℕ) → cut bytes ≡ ([], t) → HasNoFeed line → bytes ≡ line ++ 10 ∷ rest → ⊥
no_line bytes t line rest e p w = no_lines line (cut rest).0 (ap (λ (x : Cut). x.0) (sym e ∙ (ap cut w ∙ cut_feed line rest p)))

pub same_line : (bytes l : List ℕ) (ls : List (List ℕ)) (t line rest : List ℕ) → cut bytes ≡ (l ∷ ls, t) → HasNoFeed line → bytes ≡ line ++ 10 ∷ rest → line ≡ l
same_line bytes l ls t line rest e p w = sym (first_is l line ls (cut rest).0 (ap (λ (x : Cut). x.0) (sym e ∙ (ap cut w ∙ cut_feed line rest p))))
