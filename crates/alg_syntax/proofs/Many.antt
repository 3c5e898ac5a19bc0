-- Readers that go on while there is more.
use Rattle.std.proofs.Common.{◌≡◌, ℕ, zero, suc, ◌≤◌, ◌<◌, List, [], ◌∷◌, ◌++◌, length, Bool, true, false, Option, Some, None, refl, sym, ap, subst, ◌∙◌, arith, append_assoc, append-nil, length-append, inl, inr}
use Rattle.std.specs.Prelude.{option_and_then, option_map, IfNone}
use Rattle.std.proofs.lemmas.Bool.{cond-true, cond-false, cases_Bool}
use Rattle.std.proofs.lemmas.Option.{some_pair_parts}
use Rattle.alg_syntax.specs.declared.signs.Sign.{Sign}
use Rattle.alg_syntax.specs.Parsers.{Parser, many, all_of}
use Rattle.alg_syntax.specs.Spelling.{spell_all, AllFit}
use Rattle.alg_syntax.proofs.FrontLemmas.{and_then_some}
use Rattle.alg_syntax.proofs.Readings.{Reads}

pub many_more : {A : Type 0} (p : Parser A) (more : List Sign → Bool) (n : ℕ) (done : List A) (ts : List Sign) → more ts ≡ true → many p more (suc n) done ts ≡ option_and_then (λ x. many p more n (done ++ x.0 ∷ []) x.1) (p ts)
unfolding many
many_more p more n done ts h = cond-true (more ts) _ _ h

pub many_ends : {A : Type 0} (p : Parser A) (more : List Sign → Bool) (n : ℕ) (done : List A) (ts : List Sign) → more ts ≡ false → many p more (suc n) done ts ≡ Some (done, ts)
unfolding many
many_ends p more n done ts h = cond-false (more ts) _ _ h

-- what was read further
pub record Further {A : Type 0} (spell : A → List Sign) (Fits : A → Type 0) (done : List A) (ts : List Sign) (all : List A) (rest : List Sign) : Type 0 where
  pub items : List A
  pub same : all ≡ done ++ items
  pub whole : ts ≡ spell_all spell items ++ rest
  pub fit : AllFit Fits items

-- a reader finds what is spelled so and fits, where there is more
abbrev pub Finds : {A : Type 0} → Parser A → (List Sign → Bool) → (A → List Sign) → (A → Type 0) → Type 0
Finds {A} p more spell Fits = (ts : List Sign) (a : A) (rest : List Sign) → more ts ≡ true → p ts ≡ Some (a, rest) → (ts ≡ spell a ++ rest) × Fits a

nothing_further : {A : Type 0} (spell : A → List Sign) (Fits : A → Type 0) (done : List A) (ts : List Sign) (all : List A) (rest : List Sign) → ◌≡◌ {A = Option (List A × List Sign)} (Some (done, ts)) (Some (all, rest)) → Further spell Fits done ts all rest
nothing_further spell Fits done ts all rest e =
    let q = some_pair_parts done all ts rest e in
    record { items = []; same = sym q.0 ∙ sym (append-nil done); whole = q.1; fit = tt }

one_further : {A : Type 0} (p : Parser A) (more : List Sign → Bool) (spell : A → List Sign) (Fits : A → Type 0) → Finds p more spell Fits →
    (n : ℕ) → ((done : List A) (ts : List Sign) (all : List A) (rest : List Sign) → many p more n done ts ≡ Some (all, rest) → Further spell Fits done ts all rest) →
    (done : List A) (ts : List Sign) (all : List A) (rest : List Sign) → more ts ≡ true → option_and_then (λ x. many p more n (done ++ x.0 ∷ []) x.1) (p ts) ≡ Some (all, rest) → Further spell Fits done ts all rest
one_further p more spell Fits finds n further done ts all rest t e =
    let m = and_then_some (λ x. many p more n (done ++ x.0 ∷ []) x.1) (p ts) (all, rest) e in
    let h = finds ts m.0.0 m.0.1 t m.1 in
    let r = further (done ++ m.0.0 ∷ []) m.0.1 all rest m.2 in
    record {
      items = m.0.0 ∷ r.items;
      same = r.same ∙ append_assoc done (m.0.0 ∷ []) r.items;
      whole = h.0 ∙ (ap (λ us. spell m.0.0 ++ us) r.whole ∙ sym (append_assoc (spell m.0.0) (spell_all spell r.items) rest));
      fit = (h.1, r.fit);
    }

many_sound : {A : Type 0} (p : Parser A) (more : List Sign → Bool) (spell : A → List Sign) (Fits : A → Type 0) → Finds p more spell Fits →
    (n : ℕ) (done : List A) (ts : List Sign) (all : List A) (rest : List Sign) → many p more n done ts ≡ Some (all, rest) → Further spell Fits done ts all rest
unfolding many
many_sound p more spell Fits finds zero done ts all rest e = nothing_further spell Fits done ts all rest e
many_sound p more spell Fits finds (suc n) done ts all rest e = elim (cases_Bool (more ts)) [
  | inl t ↦ one_further p more spell Fits finds n (many_sound p more spell Fits finds n) done ts all rest t (sym (many_more p more n done ts t) ∙ e)
  | inr t ↦ nothing_further spell Fits done ts all rest (sym (many_ends p more n done ts t) ∙ e)
]

-- What a list of such things asks of the reader and the test. E says where one may end, and D where the list ends.
pub record Lists {A : Type 0} (p : Parser A) (more : List Sign → Bool) (spell : A → List Sign) (Fits : A → Type 0) (E D : List Sign → Type 0) : Type 0 where
  pub finds : Finds p more spell Fits
  pub reads : (a : A) (rest : List Sign) → Fits a → E rest → p (spell a ++ rest) ≡ Some (a, rest)
  pub starts : (a : A) (rest : List Sign) → Fits a → more (spell a ++ rest) ≡ true
  pub stops : (rest : List Sign) → D rest → more rest ≡ false
  pub between : (a : A) (rest : List Sign) → Fits a → E (spell a ++ rest)
  pub ends : (rest : List Sign) → D rest → E rest
  pub short : (a : A) → Fits a → 1 ≤ length (spell a)

after_one : {A : Type 0} (spell : A → List Sign) (Fits : A → Type 0) (E D : List Sign → Type 0) →
    ((a : A) (rest : List Sign) → Fits a → E (spell a ++ rest)) → ((rest : List Sign) → D rest → E rest) →
    (xs : List A) (rest : List Sign) → AllFit Fits xs → D rest → E (spell_all spell xs ++ rest)
after_one spell Fits E D between ends [] rest f d = ends rest d
after_one spell Fits E D between ends (x ∷ xs) rest f d = subst E (sym (append_assoc (spell x) (spell_all spell xs) rest)) (between x (spell_all spell xs ++ rest) f.0)

many_complete : {A : Type 0} (p : Parser A) (more : List Sign → Bool) (spell : A → List Sign) (Fits : A → Type 0) (E D : List Sign → Type 0) → Lists p more spell Fits E D →
    (n : ℕ) (done xs : List A) (rest : List Sign) → length xs ≤ n → AllFit Fits xs → D rest → many p more (suc n) done (spell_all spell xs ++ rest) ≡ Some (done ++ xs, rest)
many_complete p more spell Fits E D l n done [] rest s f d = many_ends p more n done rest (l.stops rest d) ∙ ap (λ ys. Some (ys, rest)) (sym (append-nil done))
many_complete p more spell Fits E D l zero done (x ∷ xs) rest s f d = absurd (omega arith)
many_complete p more spell Fits E D l (suc n) done (x ∷ xs) rest s f d =
    let tail = spell_all spell xs ++ rest in
    ap (many p more (suc (suc n)) done) (append_assoc (spell x) (spell_all spell xs) rest)
    ∙ (many_more p more (suc n) done (spell x ++ tail) (l.starts x tail f.0)
    ∙ (ap (option_and_then (λ z. many p more (suc n) (done ++ z.0 ∷ []) z.1)) (l.reads x tail f.0 (after_one spell Fits E D l.between l.ends xs rest f.1 d))
    ∙ (many_complete p more spell Fits E D l n (done ++ x ∷ []) xs rest (omega arith) f.1 d
    ∙ ap (λ ys. Some (ys, rest)) (append_assoc done (x ∷ []) xs))))

no_longer : {A : Type 0} (spell : A → List Sign) (Fits : A → Type 0) → ((a : A) → Fits a → 1 ≤ length (spell a)) → (xs : List A) → AllFit Fits xs → length xs ≤ length (spell_all spell xs)
no_longer spell Fits short [] f = omega arith
no_longer spell Fits short (x ∷ xs) f =
    let h = no_longer spell Fits short xs f.1 in
    let one = short x f.0 in
    let size = length-append (spell x) (spell_all spell xs) in
    omega arith

pub reads_all : {A : Type 0} (p : Parser A) (more : List Sign → Bool) (spell : A → List Sign) (Fits : A → Type 0) (E D : List Sign → Type 0) → Lists p more spell Fits E D →
    Reads (all_of p more) (spell_all spell) (AllFit Fits) D
reads_all p more spell Fits E D l = record {
  sound = λ ts xs rest e.
      let r = many_sound p more spell Fits l.finds (suc (length ts)) [] ts xs rest e in
      (r.whole ∙ ap (λ ys. spell_all spell ys ++ rest) (sym r.same), subst (AllFit Fits) (sym r.same) r.fit);
  complete = λ xs rest f d.
      let size = length-append (spell_all spell xs) rest in
      let room = no_longer spell Fits l.short xs f in
      many_complete p more spell Fits E D l (length (spell_all spell xs ++ rest)) [] xs rest (omega arith) f d;
}

-- A loop has read so much, and the turns that are left are enough.
pub record Reading {A : Type 0} (p : Parser A) (more : List Sign → Bool) (all : List Sign) (done : List A) (left : List Sign) : Type 0 where
  pub turns : ℕ
  pub room : length left ≤ turns
  pub same : all_of p more all ≡ many p more (suc turns) done left

pub begun : {A : Type 0} (p : Parser A) (more : List Sign → Bool) (all : List Sign) → Reading p more all [] all
begun p more all = record { turns = length all; room = omega arith; same = refl }

pub read_on : {A : Type 0} (p : Parser A) (more : List Sign → Bool) (all : List Sign) (done : List A) (left : List Sign) (x : A) (rest : List Sign) → Reading p more all done left → more left ≡ true → p left ≡ Some (x, rest) → length rest < length left → Reading p more all (done ++ x ∷ []) rest
read_on {A} p more all done left x rest r t e s = go r.turns r.room r.same
  where
    go : (n : ℕ) → length left ≤ n → all_of p more all ≡ many p more (suc n) done left → Reading p more all (done ++ x ∷ []) rest
    go zero l q = absurd (omega arith)
    go (suc n) l q = record {
      turns = n;
      room = omega arith;
      same = q ∙ (many_more p more (suc n) done left t ∙ ap (option_and_then (λ z. many p more (suc n) (done ++ z.0 ∷ []) z.1)) e);
    }

pub read_out : {A : Type 0} (p : Parser A) (more : List Sign → Bool) (all : List Sign) (done : List A) (left : List Sign) → Reading p more all done left → more left ≡ false → ◌≡◌ {A = Option (List A × List Sign)} (Some (done, left)) (all_of p more all)
read_out p more all done left r t = sym (r.same ∙ many_ends p more r.turns done left t)

pub read_fails : {A : Type 0} (p : Parser A) (more : List Sign → Bool) (all : List Sign) (done : List A) (left : List Sign) → Reading p more all done left → more left ≡ true → p left ≡ None → None ≡ all_of p more all
read_fails p more all done left r t e = sym (r.same ∙ (many_more p more r.turns done left t ∙ ap (option_and_then (λ z. many p more r.turns (done ++ z.0 ∷ []) z.1)) e))

-- each of them takes signs
pub shorter : {A : Type 0} (p : Parser A) (more : List Sign → Bool) (spell : A → List Sign) (Fits : A → Type 0) (E D : List Sign → Type 0) → Lists p more spell Fits E D → (ts : List Sign) (x : A) (rest : List Sign) → more ts ≡ true → p ts ≡ Some (x, rest) → length rest < length ts
shorter p more spell Fits E D l ts x rest t e =
    let h = l.finds ts x rest t e in
    let one = l.short x h.1 in
    let same = ap length h.0 in
    let size = length-append (spell x) rest in
    omega arith

-- one more is read and kept
pub kept_on : {A : Type 0} (p : Parser A) (more : List Sign → Bool) (spell : A → List Sign) (Fits : A → Type 0) (E D : List Sign → Type 0) → Lists p more spell Fits E D →
    (all : List Sign) (done now : List A) (left : List Sign) (x : A) (rest : List Sign) → Reading p more all done left → more left ≡ true → p left ≡ Some (x, rest) → now ≡ done ++ x ∷ [] → Reading p more all now rest
kept_on p more spell Fits E D l all done now left x rest r t e q =
    subst (λ ys. Reading p more all ys rest) (sym q) (read_on p more all done left x rest r t e (shorter p more spell Fits E D l left x rest t e))

-- what an answer of the code is on lists
pub found_some : {A : Type 0} (f : Option (A × List Sign)) (o : Option A) (x : A) (us : List Sign) → option_map {U = A × List Sign} (λ a. (a, us)) o ≡ f → o ≡ Some x → f ≡ Some (x, us)
found_some {A} f o x us h e = sym h ∙ ap (option_map {U = A × List Sign} (λ a. (a, us))) e

pub found_none : {A : Type 0} (f : Option (A × List Sign)) (o : Option A) (us : List Sign) → option_map {U = A × List Sign} (λ a. (a, us)) o ≡ f → o ≡ None → f ≡ None
found_none {A} f o us h e = sym h ∙ ap (option_map {U = A × List Sign} (λ a. (a, us))) e

pub if_none : {A : Type 0} (o : Option A) (P : Type 0) → IfNone o P → o ≡ None → P
if_none o P h e = subst (λ x. IfNone x P) e h
