-- What the machine reads is spelled so.
use Rattle.std.proofs.Common.{◌≡◌, ℕ, zero, suc, ◌≤◌, List, [], ◌∷◌, ◌++◌, Bool, true, false, not, Some, refl, sym, ap, subst, ◌∙◌, arith, append_assoc, inl, inr}
use Rattle.std.specs.Prelude.{nat_le, option_and_then, option_map}
use Rattle.std.proofs.lemmas.Bool.{and_parts, leb-true, cond-true, cond-false, false≢true, cases_Bool}
use Rattle.std.proofs.lemmas.Option.{some_pair_parts, none-some}
use Rattle.alg_syntax.specs.Written.{Written}
use Rattle.alg_syntax.specs.declared.signs.Operator as operator
use Rattle.alg_syntax.specs.declared.signs.Operator.TheVariants.{Add, Sub, Mul, Div, Mod, Smul, Pow}
use Rattle.alg_syntax.specs.declared.signs.Sign.{Sign}
use Rattle.alg_syntax.specs.declared.signs.Sign.TheVariants.{Number, Name, Open, Close, Operator, Inverse, Relation, Fixed}
use Rattle.alg_syntax.specs.declared.signs.Fixed.TheVariants.{Colon}
use Rattle.alg_syntax.specs.Expressions.{Tree, number, name, group, ascribed, minus, inverse, binary, apply, spell, tier, level_of, left_of, right_of, level, is_head, begins_line, Fits}
use Rattle.alg_syntax.specs.Front.{after_fixed, after_close, name_first}
use Rattle.alg_syntax.specs.Machine.{takes, Mode, Begin, Go, Frame, In_minus, In_right, In_argument, In_group, Run, first_at, longer_at, whole_at, grouped_at, wrapped, sort_first, negated_at, run}
use Rattle.alg_syntax.proofs.Levels.{right_low, no_empty}
use Rattle.alg_syntax.proofs.FrontLemmas.{and_then_some, map_some, after_fixed_spelled, after_close_spelled, name_first_spelled}

-- A part of the level r, whose text and what is left are w, has its place in the frames. What is read in all is `all`.
abbrev pub Sits : List Sign → ℕ → List Frame → List Sign → Type 0
Sits all r [] w = (r ≡ 65) × (all ≡ w)
Sits all r (In_minus m ∷ fs) w = (r ≡ 75) × (m ≤ 75) × Sits all m fs (Operator Sub ∷ w)
Sits all r (In_right m a o ∷ fs) w = (r ≡ right_of (tier o)) × (m ≤ level_of (tier o)) × (left_of (tier o) ≤ level a) × Fits a × Sits all m fs (spell a ++ Operator o ∷ w)
Sits all r (In_argument m a ∷ fs) w = (r ≡ 100) × (m ≤ 76) × (is_head a ≡ true) × Fits a × (begins_line w ≡ false) × Sits all m fs (spell a ++ w)
Sits all r (In_group m g ∷ fs) w = (r ≡ 65) × Sits all m fs (Open g ∷ w)

abbrev pub Stands : List Sign → Mode → List Frame → List Sign → Type 0
Stands all (Begin m) fs ts = Sits all m fs ts
Stands all (Go m a) fs ts = Fits a × (m ≤ level a) × Sits all m fs (spell a ++ ts)

pub bound : (all : List Sign) (r : ℕ) (fs : List Frame) (w : List Sign) → Sits all r fs w → r ≤ 100
bound all r [] w h = let e = h.0 in omega arith
bound all r (In_minus m ∷ fs) w h = let e = h.0 in omega arith
bound all r (In_right m a o ∷ fs) w h = let e = h.0 in let l = right_low (tier o) in omega arith
bound all r (In_argument m a ∷ fs) w h = let e = h.0 in omega arith
bound all r (In_group m g ∷ fs) w h = let e = h.0 in omega arith

pub record IsWritten (all : List Sign) (c : Tree) (rest : List Sign) : Type 0 where
  pub whole : all ≡ spell c ++ rest
  pub fits : Fits c

abbrev pub IsSound : List Sign → Run → Type 0
IsSound all f = (st : Mode) (fs : List Frame) (ts : List Sign) (c : Tree) (rest : List Sign) → Stands all st fs ts → f st fs ts ≡ Some (c, rest) → IsWritten all c rest

not_false : (g : Bool) → not g ≡ true → g ≡ false
not_false true e = absurd (false≢true e)
not_false false e = refl

-- a text begins as its front does
front_line : (xs ts : List Sign) → (xs ≡ [] → ⊥) → begins_line (xs ++ ts) ≡ false → begins_line xs ≡ false
front_line [] ts n h = absurd (n refl)
front_line (Number f v ∷ xs) ts n h = h
front_line (Name v ∷ xs) ts n h = h
front_line (Open f ∷ xs) ts n h = h
front_line (Close ∷ xs) ts n h = refl
front_line (Operator o ∷ xs) ts n h = refl
front_line (Inverse ∷ xs) ts n h = refl
front_line (Relation k ∷ xs) ts n h = refl
front_line (Fixed k ∷ xs) ts n h = refl

sound_negated : (all : List Sign) (f : Run) → IsSound all f → (m : ℕ) (fs : List Frame) (o : operator.Operator) (ts : List Sign) (c : Tree) (rest : List Sign) → Sits all m fs (Operator o ∷ ts) → negated_at f m fs o ts ≡ Some (c, rest) → IsWritten all c rest
sound_negated all f s m fs Sub ts c rest h e = elim (cases_Bool (nat_le m 75)) [
  | inl t ↦ s (Begin 75) (In_minus m ∷ fs) ts c rest (refl, leb-true m 75 t, h) (sym (cond-true _ _ _ t) ∙ e)
  | inr t ↦ absurd (none-some _ (sym (cond-false _ _ _ t) ∙ e))
]
sound_negated all f s m fs Add ts c rest h e = absurd (none-some _ e)
sound_negated all f s m fs Mul ts c rest h e = absurd (none-some _ e)
sound_negated all f s m fs Div ts c rest h e = absurd (none-some _ e)
sound_negated all f s m fs Mod ts c rest h e = absurd (none-some _ e)
sound_negated all f s m fs Smul ts c rest h e = absurd (none-some _ e)
sound_negated all f s m fs Pow ts c rest h e = absurd (none-some _ e)

sound_first : (all : List Sign) (f : Run) → IsSound all f → (m : ℕ) (fs : List Frame) (ts : List Sign) (c : Tree) (rest : List Sign) → Sits all m fs ts → first_at f m fs ts ≡ Some (c, rest) → IsWritten all c rest
sound_first all f s m fs (Number g n ∷ ts) c rest h e = s (Go m (number g n)) fs ts c rest (tt, bound all m fs _ h, h) e
sound_first all f s m fs (Name n ∷ ts) c rest h e = s (Go m (name n)) fs ts c rest (tt, bound all m fs _ h, h) e
sound_first all f s m fs (Open g ∷ ts) c rest h e = s (Begin 65) (In_group m g ∷ fs) ts c rest (refl, h) e
sound_first all f s m fs (Operator o ∷ ts) c rest h e = sound_negated all f s m fs o ts c rest h e
sound_first all f s m fs (Close ∷ ts) c rest h e = absurd (none-some _ e)
sound_first all f s m fs (Inverse ∷ ts) c rest h e = absurd (none-some _ e)
sound_first all f s m fs (Relation k ∷ ts) c rest h e = absurd (none-some _ e)
sound_first all f s m fs (Fixed k ∷ ts) c rest h e = absurd (none-some _ e)
sound_first all f s m fs [] c rest h e = absurd (none-some _ e)

sound_longer : (all : List Sign) (f : Run) → IsSound all f → (m : ℕ) (a : Tree) (fs : List Frame) (ts : List Sign) (c : Tree) (rest : List Sign) → takes m a ts ≡ true → Stands all (Go m a) fs ts → longer_at f m a fs ts ≡ Some (c, rest) → IsWritten all c rest
sound_longer all f s m a fs (Operator o ∷ ts) c rest t h e = let k = and_parts _ _ t in s (Begin (right_of (tier o))) (In_right m a o ∷ fs) ts c rest (refl, leb-true _ _ k.0, leb-true _ _ k.1, h.0, h.2) e
sound_longer all f s m a fs (Inverse ∷ ts) c rest t h e = s (Go m (inverse a)) fs ts c rest ((leb-true 100 (level a) t, h.0), bound all m fs _ h.2, subst (Sits all m fs) (sym (append_assoc (spell a) (Inverse ∷ []) ts)) h.2) e
sound_longer all f s m a fs (Number g n ∷ ts) c rest t h e = let k = and_parts _ _ t in let j = and_parts _ _ k.1 in s (Begin 100) (In_argument m a ∷ fs) (Number g n ∷ ts) c rest (refl, leb-true _ _ k.0, j.0, h.0, not_false g j.1, h.2) e
sound_longer all f s m a fs (Name n ∷ ts) c rest t h e = let k = and_parts _ _ t in let j = and_parts _ _ k.1 in s (Begin 100) (In_argument m a ∷ fs) (Name n ∷ ts) c rest (refl, leb-true _ _ k.0, j.0, h.0, not_false n.begins_line j.1, h.2) e
sound_longer all f s m a fs (Open g ∷ ts) c rest t h e = let k = and_parts _ _ t in let j = and_parts _ _ k.1 in s (Begin 100) (In_argument m a ∷ fs) (Open g ∷ ts) c rest (refl, leb-true _ _ k.0, j.0, h.0, not_false g j.1, h.2) e
sound_longer all f s m a fs (Close ∷ ts) c rest t h e = absurd (false≢true t)
sound_longer all f s m a fs (Relation k ∷ ts) c rest t h e = absurd (false≢true t)
sound_longer all f s m a fs (Fixed k ∷ ts) c rest t h e = absurd (false≢true t)
sound_longer all f s m a fs [] c rest t h e = absurd (false≢true t)

-- what a parenthesis makes is spelled by its parts
pub record IsWrapped (g : Bool) (a : Tree) (ts : List Sign) (b : Tree) (rest : List Sign) : Type 0 where
  pub whole : Open g ∷ (spell a ++ ts) ≡ spell b ++ rest
  pub fits : Fits b
  pub high : 100 ≤ level b

sort_spelled : (ts : List Sign) (sort : Written) (rest : List Sign) → sort_first ts ≡ Some (sort, rest) → ts ≡ Fixed Colon ∷ Name sort ∷ Close ∷ rest
sort_spelled ts sort rest e =
    let colon = and_then_some (λ us. option_and_then (λ x. option_map (λ vs. (x.0, vs)) (after_close x.1)) (name_first us)) (after_fixed Colon ts) (sort, rest) e in
    let named = and_then_some (λ x. option_map (λ vs. (x.0, vs)) (after_close x.1)) (name_first colon.0) (sort, rest) colon.2 in
    let closed = map_some (λ vs. (named.0.0, vs)) (after_close named.0.1) (sort, rest) named.2 in
    let p = some_pair_parts named.0.0 sort closed.0 rest (ap Some closed.2) in
    after_fixed_spelled Colon ts colon.0 colon.1
    ∙ ap (λ us. Fixed Colon ∷ us) (name_first_spelled colon.0 named.0.0 named.0.1 named.1
    ∙ (λ i. Name (p.0 i) ∷ (after_close_spelled named.0.1 closed.0 closed.1 ∙ ap (λ vs. Close ∷ vs) p.1) i))

wrapped_fixed : (g : Bool) (a : Tree) (ts : List Sign) (b : Tree) (rest : List Sign) → Fits a → option_map {U = Tree × List Sign} (λ x. (ascribed g a x.0, x.1)) (sort_first ts) ≡ Some (b, rest) → IsWrapped g a ts b rest
wrapped_fixed g a ts b rest fa e =
    let found = map_some (λ x. (ascribed g a x.0, x.1)) (sort_first ts) (b, rest) e in
    let p = some_pair_parts (ascribed g a found.0.0) b found.0.1 rest (ap Some found.2) in
    let s = sort_spelled ts found.0.0 found.0.1 found.1 in
    record {
      whole = ap (λ us. Open g ∷ (spell a ++ us)) s
          ∙ (ap (λ us. Open g ∷ us) (sym (append_assoc (spell a) (Fixed Colon ∷ Name found.0.0 ∷ Close ∷ []) found.0.1))
          ∙ (λ i. spell (p.0 i) ++ p.1 i));
      fits = subst Fits p.0 fa;
      high = subst (λ t. 100 ≤ level t) p.0 (omega arith);
    }

wrapped_spelled : (g : Bool) (a : Tree) (ts : List Sign) (b : Tree) (rest : List Sign) → Fits a → wrapped g a ts ≡ Some (b, rest) → IsWrapped g a ts b rest
wrapped_spelled g a [] b rest fa e = absurd (none-some _ e)
wrapped_spelled g a (Number k n ∷ ts) b rest fa e = absurd (none-some _ e)
wrapped_spelled g a (Name n ∷ ts) b rest fa e = absurd (none-some _ e)
wrapped_spelled g a (Open k ∷ ts) b rest fa e = absurd (none-some _ e)
wrapped_spelled g a (Close ∷ ts) b rest fa e =
    let p = some_pair_parts (group g a) b ts rest e in
    record {
      whole = ap (λ us. Open g ∷ us) (sym (append_assoc (spell a) (Close ∷ []) ts)) ∙ (λ i. spell (p.0 i) ++ p.1 i);
      fits = subst Fits p.0 fa;
      high = subst (λ t. 100 ≤ level t) p.0 (omega arith);
    }
wrapped_spelled g a (Operator o ∷ ts) b rest fa e = absurd (none-some _ e)
wrapped_spelled g a (Inverse ∷ ts) b rest fa e = absurd (none-some _ e)
wrapped_spelled g a (Relation k ∷ ts) b rest fa e = absurd (none-some _ e)
wrapped_spelled g a (Fixed k ∷ ts) b rest fa e = wrapped_fixed g a (Fixed k ∷ ts) b rest fa e

sound_grouped : (all : List Sign) (f : Run) → IsSound all f → (m : ℕ) (g : Bool) (a : Tree) (fs : List Frame) (ts : List Sign) (c : Tree) (rest : List Sign) → Fits a → Sits all m fs (Open g ∷ (spell a ++ ts)) → grouped_at f m g a fs ts ≡ Some (c, rest) → IsWritten all c rest
sound_grouped all f s m g a fs ts c rest fa h e =
    let found = and_then_some (λ x. f (Go m x.0) fs x.1) (wrapped g a ts) (c, rest) e in
    let w = wrapped_spelled g a ts found.0.0 found.0.1 fa found.1 in
    let b = bound all m fs _ h in
    let high = w.high in
    s (Go m found.0.0) fs found.0.1 c rest (w.fits, omega arith, subst (Sits all m fs) w.whole h) found.2

sound_whole : (all : List Sign) (f : Run) → IsSound all f → (r : ℕ) (a : Tree) (fs : List Frame) (ts : List Sign) (c : Tree) (rest : List Sign) → Stands all (Go r a) fs ts → whole_at f a fs ts ≡ Some (c, rest) → IsWritten all c rest
sound_whole all f s r a [] ts c rest h e = let p = some_pair_parts a c ts rest e in record { whole = h.2.1 ∙ (ap (λ x. spell x ++ ts) p.0 ∙ ap (λ xs. spell c ++ xs) p.1); fits = subst Fits p.0 h.0 }
sound_whole all f s r a (In_minus m ∷ fs) ts c rest h e = let k = h.2 in let same = k.0 in let l = h.1 in s (Go m (minus a)) fs ts c rest ((omega arith, h.0), k.1, k.2) e
sound_whole all f s r a (In_right m b o ∷ fs) ts c rest h e =
    let k = h.2 in let same = k.0 in let l = h.1 in
    s (Go m (binary o b a)) fs ts c rest ((k.2, omega arith, k.3, h.0), k.1, subst (Sits all m fs) (sym (append_assoc (spell b) (Operator o ∷ spell a) ts)) k.4) e
sound_whole all f s r a (In_argument m b ∷ fs) ts c rest h e =
    let k = h.2 in let same = k.0 in let l = h.1 in
    s (Go m (apply b a)) fs ts c rest ((k.2, omega arith, front_line (spell a) ts (no_empty a) k.4, k.3, h.0), k.1, subst (Sits all m fs) (sym (append_assoc (spell b) (spell a) ts)) k.5) e
sound_whole all f s r a (In_group m g ∷ fs) ts c rest h e = sound_grouped all f s m g a fs ts c rest h.0 h.2.1 e

-- what is read is written so
pub sound : (all : List Sign) (n : ℕ) → IsSound all (run n)
unfolding run
sound all zero st fs ts c rest h e = absurd (none-some _ e)
sound all (suc n) (Begin m) fs ts c rest h e = sound_first all (run n) (sound all n) m fs ts c rest h e
sound all (suc n) (Go m a) fs ts c rest h e = elim (cases_Bool (takes m a ts)) [
  | inl t ↦ sound_longer all (run n) (sound all n) m a fs ts c rest t h (sym (cond-true _ _ _ t) ∙ e)
  | inr t ↦ sound_whole all (run n) (sound all n) m a fs ts c rest h (sym (cond-false _ _ _ t) ∙ e)
]
