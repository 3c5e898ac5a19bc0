-- A reader on lists reads exactly what is spelled.
use Rattle.std.proofs.Common.{◌≡◌, List, [], ◌∷◌, ◌++◌, Option, Some, None, refl, sym, ap, subst, ◌∙◌, append_assoc, ◌⊎◌, inl, inr}
use Rattle.std.specs.Prelude.{option_map, option_and_then, ◌==◌}
use Rattle.std.proofs.lemmas.Bool.{cond-true, eq-eqb}
use Rattle.alg_syntax.specs.declared.signs.Sign.{Sign}
use Rattle.alg_syntax.specs.declared.signs.Sign.TheVariants.{Close, Fixed}
use Rattle.alg_syntax.specs.declared.signs.Fixed as fixed
use Rattle.alg_syntax.specs.Front.{number_of, after_fixed, after_close}
use Rattle.alg_syntax.specs.Parsers.{Parser, Skip, mapped, both, behind, ahead, choice}
use Rattle.alg_syntax.proofs.FrontLemmas.{and_then_some, map_some, after_fixed_spelled, after_close_spelled}

-- What is read is spelled so and fits; and what fits and is spelled so is read, where what follows ends it.
pub record Reads {A : Type 0} (p : Parser A) (spell : A → List Sign) (Fits : A → Type 0) (Ends : List Sign → Type 0) : Type 0 where
  pub sound : (ts : List Sign) (a : A) (rest : List Sign) → p ts ≡ Some (a, rest) → (ts ≡ spell a ++ rest) × Fits a
  pub complete : (a : A) (rest : List Sign) → Fits a → Ends rest → p (spell a ++ rest) ≡ Some (a, rest)

-- this sign is passed, and no other
pub record Skips (s : Skip) (t : Sign) : Type 0 where
  pub passed : (ts us : List Sign) → s ts ≡ Some us → ts ≡ t ∷ us
  pub passes : (us : List Sign) → s (t ∷ us) ≡ Some us

pub skips_fixed : (k : fixed.Fixed) → Skips (after_fixed k) (Fixed k)
skips_fixed k = record {
  passed = after_fixed_spelled k;
  passes = λ us. cond-true (number_of k == number_of k) (Some us) None (eq-eqb (number_of k) (number_of k) refl);
}

pub skips_close : Skips after_close Close
skips_close = record { passed = after_close_spelled; passes = λ us. refl }

pub reads_both : {A B : Type 0} (p : Parser A) (q : Parser B) (sp : A → List Sign) (sq : B → List Sign) (F : A → Type 0) (G : B → Type 0) (E D : List Sign → Type 0) →
    Reads p sp F E → Reads q sq G D → ((b : B) (rest : List Sign) → G b → D rest → E (sq b ++ rest)) →
    Reads (both p q) (λ x. sp x.0 ++ sq x.1) (λ x. F x.0 × G x.1) D
reads_both {A} {B} p q sp sq F G E D r s follows = record {
  sound = λ ts x rest e.
      let m = and_then_some (λ x. option_map (λ y. ((x.0, y.0), y.1)) (q x.1)) (p ts) (x, rest) e in
      let n = map_some (λ y. ((m.0.0, y.0), y.1)) (q m.0.1) (x, rest) m.2 in
      let h = r.sound ts m.0.0 m.0.1 m.1 in
      let k = s.sound m.0.1 n.0.0 n.0.1 n.1 in
      subst (λ (z : (A × B) × List Sign). (ts ≡ (sp z.0.0 ++ sq z.0.1) ++ z.1) × (F z.0.0 × G z.0.1)) n.2
      (h.0 ∙ (ap (λ us. sp m.0.0 ++ us) k.0 ∙ sym (append_assoc (sp m.0.0) (sq n.0.0) n.0.1)), (h.1, k.1));
  complete = λ x rest f d.
      ap (both p q) (append_assoc (sp x.0) (sq x.1) rest)
      ∙ (ap (option_and_then (λ z. option_map (λ y. ((z.0, y.0), y.1)) (q z.1))) (r.complete x.0 (sq x.1 ++ rest) f.0 (follows x.1 rest f.1 d))
      ∙ ap (option_map (λ y. ((x.0, y.0), y.1))) (s.complete x.1 rest f.1 d));
}

pub reads_behind : {A : Type 0} (k : Skip) (t : Sign) (p : Parser A) (sp : A → List Sign) (F : A → Type 0) (E : List Sign → Type 0) →
    Skips k t → Reads p sp F E → Reads (behind k p) (λ a. t ∷ sp a) F E
reads_behind k t p sp F E s r = record {
  sound = λ ts a rest e.
      let m = and_then_some p (k ts) (a, rest) e in
      let h = r.sound m.0 a rest m.2 in
      (s.passed ts m.0 m.1 ∙ ap (λ us. t ∷ us) h.0, h.1);
  complete = λ a rest f d. ap (option_and_then p) (s.passes (sp a ++ rest)) ∙ r.complete a rest f d;
}

pub reads_ahead : {A : Type 0} (k : Skip) (t : Sign) (p : Parser A) (sp : A → List Sign) (F : A → Type 0) (E D : List Sign → Type 0) →
    Skips k t → Reads p sp F E → ((rest : List Sign) → E (t ∷ rest)) → Reads (ahead p k) (λ a. sp a ++ t ∷ []) F D
reads_ahead {A} k t p sp F E D s r ends = record {
  sound = λ ts a rest e.
      let m = and_then_some (λ x. option_map (λ us. (x.0, us)) (k x.1)) (p ts) (a, rest) e in
      let n = map_some (λ us. (m.0.0, us)) (k m.0.1) (a, rest) m.2 in
      let h = r.sound ts m.0.0 m.0.1 m.1 in
      subst (λ (z : A × List Sign). (ts ≡ (sp z.0 ++ t ∷ []) ++ z.1) × F z.0) n.2
      (h.0 ∙ (ap (λ us. sp m.0.0 ++ us) (s.passed m.0.1 n.0 n.1) ∙ sym (append_assoc (sp m.0.0) (t ∷ []) n.0)), h.1);
  complete = λ a rest f d.
      ap (ahead p k) (append_assoc (sp a) (t ∷ []) rest)
      ∙ (ap (option_and_then (λ x. option_map (λ us. (x.0, us)) (k x.1))) (r.complete a (t ∷ rest) f (ends rest))
      ∙ ap (option_map (λ us. (a, us))) (s.passes rest));
}

pub reads_mapped : {A B : Type 0} (f : A → B) (g : B → A) (p : Parser A) (sp : A → List Sign) (F : A → Type 0) (E : List Sign → Type 0) →
    ((a : A) → g (f a) ≡ a) → ((b : B) → f (g b) ≡ b) → Reads p sp F E → Reads (mapped f p) (λ b. sp (g b)) (λ b. F (g b)) E
reads_mapped {A} {B} f g p sp F E gf fg r = record {
  sound = λ ts b rest e.
      let m = map_some (λ x. (f x.0, x.1)) (p ts) (b, rest) e in
      let h = r.sound ts m.0.0 m.0.1 m.1 in
      subst (λ (z : B × List Sign). (ts ≡ sp (g z.0) ++ z.1) × F (g z.0)) m.2
      (h.0 ∙ ap (λ a. sp a ++ m.0.1) (sym (gf m.0.0)), subst F (sym (gf m.0.0)) h.1);
  complete = λ b rest h d. ap (option_map (λ x. (f x.0, x.1))) (r.complete (g b) rest h d) ∙ ap (λ a. Some (a, rest)) (fg b);
}

-- the same with another way to say what fits
pub refit : {A : Type 0} (p : Parser A) (spell : A → List Sign) (F G : A → Type 0) (E : List Sign → Type 0) → ((a : A) → F a → G a) → ((a : A) → G a → F a) → Reads p spell F E → Reads p spell G E
refit p spell F G E to from r = record {
  sound = λ ts a rest e. let h = r.sound ts a rest e in (h.0, to a h.1);
  complete = λ a rest g d. r.complete a rest (from a g) d;
}

-- what was made of what was read
pub record Made {A B : Type 0} (f : A → B) (spell : A → List Sign) (Fits : A → Type 0) (ts : List Sign) (b : B) (rest : List Sign) : Type 0 where
  pub from : A
  pub same : f from ≡ b
  pub whole : ts ≡ spell from ++ rest
  pub fits : Fits from

pub mapped_made : {A B : Type 0} (f : A → B) (p : Parser A) (spell : A → List Sign) (Fits : A → Type 0) (E : List Sign → Type 0) → Reads p spell Fits E →
    (ts : List Sign) (b : B) (rest : List Sign) → mapped f p ts ≡ Some (b, rest) → Made f spell Fits ts b rest
mapped_made f p spell Fits E r ts b rest e =
    let m = map_some (λ x. (f x.0, x.1)) (p ts) (b, rest) e in
    let h = r.sound ts m.0.0 m.0.1 m.1 in
    record {
      from = m.0.0;
      same = λ i. (m.2 i).0;
      whole = h.0 ∙ ap (λ us. spell m.0.0 ++ us) (λ i. (m.2 i).1);
      fits = h.1;
    }

-- which of the two was read
pub choice_cases : {A : Type 0} (o : Option (List Sign)) (p : Parser A) (other : Option (A × List Sign)) (y : A × List Sign) → choice o p other ≡ Some y → ((us : List Sign) × (o ≡ Some us) × (p us ≡ Some y)) ⊎ ((o ≡ None) × (other ≡ Some y))
choice_cases (Some us) p other y e = inl (us, refl, e)
choice_cases None p other y e = inr (refl, e)
