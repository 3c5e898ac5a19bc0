-- The first token is read, and nothing else.
use Rattle.std.proofs.Common.{◌≡◌, ℕ, ◌≤◌, Bool, true, false, List, [], ◌∷◌, ◌++◌, Option, Some, None, ◌==◌, decimal, option_map, if◌then◌else◌, refl, sym, ap, subst, ◌∙◌, arith, append_assoc, eqb-true, ne_eqb, length, take, drop, take_at, drop_at, length-append, ◌<◌}
use Rattle.std.proofs.lemmas.Bool.{and_parts, and_from, or_parts, both_ways}
use Rattle.std.proofs.lemmas.Option.{none-some, some_pair_parts}
use Rattle.alg_certificate.specs.Numbers.{Read, is_digit, begins_digit, read_number, max_number}
use Rattle.alg_certificate.specs.Tokens.{Tok, Blank, Close, Semi, Open, Lit, Var, Word, token_bytes, is_word, all_word, begins_word, is_some_word, Good, front, behind, word_then, number_then, colon_then, lit_then, open_then, name_then, token_at, read_token}
use Rattle.alg_certificate.proofs.NumberLaws.{some_is, number_sound, number_complete}

parts_by : (c : ℕ) (cs : List ℕ) (b : Bool) → front cs ++ behind cs ≡ cs → if◌then◌else◌ {A = List ℕ} b (c ∷ front cs) [] ++ if◌then◌else◌ {A = List ℕ} b (behind cs) (c ∷ cs) ≡ c ∷ cs
parts_by c cs true e = ap (λ x. c ∷ x) e
parts_by c cs false e = refl

pub parts : (text : List ℕ) → front text ++ behind text ≡ text
parts [] = refl
parts (c ∷ cs) = parts_by c cs (is_word c) (parts cs)

all_by : (c : ℕ) (cs : List ℕ) (b : Bool) → is_word c ≡ b → all_word cs ≡ true → all_word (if◌then◌else◌ {A = List ℕ} b (c ∷ cs) []) ≡ true
all_by c cs true d e = and_from _ _ d e
all_by c cs false d e = refl

pub all_front : (text : List ℕ) → all_word (front text) ≡ true
all_front [] = refl
all_front (c ∷ cs) = all_by c (front cs) _ refl (all_front cs)

pub some_front : (text : List ℕ) → begins_word text ≡ true → is_some_word (front text) ≡ true
some_front [] e = e
some_front (c ∷ cs) e = rw e (and_from (is_word c) _ e (and_from (is_word c) _ e (all_front cs)))

-- COMPLETE for words
pub front_is : (w rest : List ℕ) → all_word w ≡ true → begins_word rest ≡ false → front (w ++ rest) ≡ w
front_is [] [] a e = refl
front_is [] (c ∷ cs) a e = rw e refl
front_is (c ∷ cs) rest a e = let p = and_parts (is_word c) (all_word cs) a in rw p.0 (ap (λ x. c ∷ x) (front_is cs rest p.1 e))

pub behind_is : (w rest : List ℕ) → all_word w ≡ true → begins_word rest ≡ false → behind (w ++ rest) ≡ rest
behind_is [] [] a e = refl
behind_is [] (c ∷ cs) a e = rw e refl
behind_is (c ∷ cs) rest a e = let p = and_parts (is_word c) (all_word cs) a in rw p.0 (behind_is cs rest p.1 e)

begins_front : (w rest : List ℕ) → is_some_word w ≡ true → begins_word (w ++ rest) ≡ true
begins_front [] rest e = cc
begins_front (c ∷ cs) rest e = (and_parts _ _ e).0

pub word_read : (f : List ℕ → List ℕ → Read Tok) (w rest : List ℕ) → is_some_word w ≡ true → begins_word rest ≡ false → word_then f (w ++ rest) ≡ f w rest
word_read f w rest good e =
    let all = (and_parts _ _ good).1 in
    rw (begins_front w rest good, front_is w rest all e, behind_is w rest all e) refl

digit_is_word : (c : ℕ) → is_word c ≡ false → is_digit c ≡ false
digit_is_word c e = (or_parts _ _ e).0

no_digit : (rest : List ℕ) → begins_word rest ≡ false → begins_digit rest ≡ false
no_digit [] e = refl
no_digit (c ∷ cs) e = digit_is_word c e

pub number_read : (f : ℕ → Tok) (n : ℕ) (rest : List ℕ) → n ≤ max_number → begins_word rest ≡ false → number_then f (decimal n ++ rest) ≡ Some (f n, rest)
number_read f n rest fits e = rw (number_complete n rest fits (no_digit rest e)) refl

-- SOUND
pub record IsFirst (text : List ℕ) (t : Tok) (rest : List ℕ) : Type 0 where
  pub whole : text ≡ token_bytes t ++ rest
  pub good : Good t

moved : (text : List ℕ) (t u : Tok) (rest more : List ℕ) → ◌≡◌ {A = Option (Tok × List ℕ)} (Some (t, rest)) (Some (u, more)) → IsFirst text t rest → IsFirst text u more
moved text t u rest more e h = subst (λ (x : Tok × List ℕ). IsFirst text x.0 x.1) (some_is _ _ e) h

word_by : (f : List ℕ → List ℕ → Read Tok) (cs : List ℕ) (b : Bool) (t : Tok) (rest : List ℕ) → begins_word cs ≡ b → if◌then◌else◌ {A = Read Tok} b (f (front cs) (behind cs)) None ≡ Some (t, rest) → (is_some_word (front cs) ≡ true) × (f (front cs) (behind cs) ≡ Some (t, rest))
word_by f cs false t rest d e = absurd (none-some _ e)
word_by f cs true t rest d e = (some_front cs d, e)

-- what a word was read from
pub word_sound : (f : List ℕ → List ℕ → Read Tok) (cs : List ℕ) (t : Tok) (rest : List ℕ) → word_then f cs ≡ Some (t, rest) → (is_some_word (front cs) ≡ true) × (f (front cs) (behind cs) ≡ Some (t, rest))
word_sound f cs t rest e = word_by f cs _ t rest refl e

number_by : (f : ℕ → Tok) (cs : List ℕ) (o : Read ℕ) (t : Tok) (rest : List ℕ) → read_number cs ≡ o → option_map {U = Tok × List ℕ} (λ x. (f x.0, x.1)) o ≡ Some (t, rest) → (n : ℕ) × (cs ≡ decimal n ++ rest) × (n ≤ max_number) × (f n ≡ t)
number_by f cs None t rest d e = absurd (none-some _ e)
number_by f cs (Some (n, more)) t rest d e =
    let s = number_sound cs n more d in
    let same : more ≡ rest = ap (λ (x : Tok × List ℕ). x.1) (some_is _ _ e) in
    (n, s.0 ∙ ap (λ r. decimal n ++ r) same, s.1, ap (λ (x : Tok × List ℕ). x.0) (some_is _ _ e))

number_from : (f : ℕ → Tok) (cs : List ℕ) (t : Tok) (rest : List ℕ) → number_then f cs ≡ Some (t, rest) → (n : ℕ) × (cs ≡ decimal n ++ rest) × (n ≤ max_number) × (f n ≡ t)
number_from f cs t rest e = number_by f cs _ t rest refl e

colon_by : (s : List ℕ) (c : ℕ) (cs : List ℕ) (b : Bool) (t : Tok) (rest : List ℕ) → (c == 58) ≡ b → if◌then◌else◌ {A = Read Tok} b (number_then (λ n. Lit s n) cs) None ≡ Some (t, rest) → (n : ℕ) × (c ∷ cs ≡ 58 ∷ (decimal n ++ rest)) × (n ≤ max_number) × (Lit s n ≡ t)
colon_by s c cs false t rest d e = absurd (none-some _ e)
colon_by s c cs true t rest d e = let r = number_from (λ n. Lit s n) cs t rest e in (r.0, ap (λ k. k ∷ cs) (eqb-true c 58 d) ∙ ap (λ x. 58 ∷ x) r.1, r.2, r.3)

colon_from : (s more : List ℕ) (t : Tok) (rest : List ℕ) → colon_then (λ n. Lit s n) more ≡ Some (t, rest) → (n : ℕ) × (more ≡ 58 ∷ (decimal n ++ rest)) × (n ≤ max_number) × (Lit s n ≡ t)
colon_from s [] t rest e = absurd (none-some _ e)
colon_from s (c ∷ cs) t rest e = colon_by s c cs _ t rest refl e

named : (text cs : List ℕ) (t : Tok) (rest : List ℕ) → text ≡ cs → word_then name_then cs ≡ Some (t, rest) → IsFirst text t rest
named text cs t rest same e =
    let w = word_sound name_then cs t rest e in
    moved text _ t _ rest w.1 (record { whole = same ∙ sym (parts cs); good = w.0 })

opened : (cs : List ℕ) (t : Tok) (rest : List ℕ) → word_then open_then cs ≡ Some (t, rest) → IsFirst (40 ∷ cs) t rest
opened cs t rest e =
    let w = word_sound open_then cs t rest e in
    moved (40 ∷ cs) _ t _ rest w.1 (record { whole = ap (λ x. 40 ∷ x) (sym (parts cs)); good = w.0 })

literal : (cs : List ℕ) (t : Tok) (rest : List ℕ) → word_then lit_then cs ≡ Some (t, rest) → IsFirst (35 ∷ cs) t rest
literal cs t rest e =
    let w = word_sound lit_then cs t rest e in
    let r = colon_from (front cs) (behind cs) t rest w.1 in
    subst (λ u. IsFirst (35 ∷ cs) u rest) r.3 (record {
      whole = ap (λ x. 35 ∷ x) (sym (parts cs) ∙ (ap (λ x. front cs ++ x) r.1 ∙ sym (append_assoc (front cs) (58 ∷ decimal r.0) rest)));
      good = (w.0, r.2);
    })

variable : (cs : List ℕ) (t : Tok) (rest : List ℕ) → number_then (λ k. Var k) cs ≡ Some (t, rest) → IsFirst (36 ∷ cs) t rest
variable cs t rest e =
    let r = number_from (λ k. Var k) cs t rest e in
    subst (λ u. IsFirst (36 ∷ cs) u rest) r.3 (record { whole = ap (λ x. 36 ∷ x) r.1; good = r.2 })

-- one of two ways by a test on the first byte
choose : (c k : ℕ) (cs : List ℕ) (x y : Read Tok) (t : Tok) (rest : List ℕ) → (x ≡ Some (t, rest) → IsFirst (k ∷ cs) t rest) → (y ≡ Some (t, rest) → IsFirst (c ∷ cs) t rest) → if◌then◌else◌ {A = Read Tok} (c == k) x y ≡ Some (t, rest) → IsFirst (c ∷ cs) t rest
choose c k cs x y t rest f g e = choose_by _ refl e
  where
    choose_by : (b : Bool) → (c == k) ≡ b → if◌then◌else◌ {A = Read Tok} b x y ≡ Some (t, rest) → IsFirst (c ∷ cs) t rest
    choose_by true d h = subst (λ i. IsFirst (i ∷ cs) t rest) (sym (eqb-true c k d)) (f h)
    choose_by false d h = g h

pub token_sound : (text : List ℕ) (t : Tok) (rest : List ℕ) → read_token text ≡ Some (t, rest) → IsFirst text t rest
unfolding read_token
token_sound [] t rest e = absurd (none-some _ e)
token_sound (c ∷ cs) t rest e =
    choose c 32 cs _ _ t rest (λ h. moved (32 ∷ cs) Blank t cs rest h (record { whole = refl; good = tt }))
    (choose c 41 cs _ _ t rest (λ h. moved (41 ∷ cs) Close t cs rest h (record { whole = refl; good = tt }))
    (choose c 59 cs _ _ t rest (λ h. moved (59 ∷ cs) Semi t cs rest h (record { whole = refl; good = tt }))
    (choose c 40 cs _ _ t rest (opened cs t rest)
    (choose c 35 cs _ _ t rest (literal cs t rest)
    (choose c 36 cs _ _ t rest (variable cs t rest)
    (λ h. named (c ∷ cs) (c ∷ cs) t rest refl h)))))) e

-- COMPLETE
abbrev pub Stops : Tok → List ℕ → Type 0
Stops Blank rest = Unit {0}
Stops Close rest = Unit {0}
Stops Semi rest = Unit {0}
Stops (Open w) rest = begins_word rest ≡ false
Stops (Lit s n) rest = begins_word rest ≡ false
Stops (Var k) rest = begins_word rest ≡ false
Stops (Word w) rest = begins_word rest ≡ false

lit_read : (s : List ℕ) (n : ℕ) (rest : List ℕ) → is_some_word s ≡ true → n ≤ max_number → begins_word rest ≡ false → word_then lit_then ((s ++ 58 ∷ decimal n) ++ rest) ≡ Some (Lit s n, rest)
lit_read s n rest good fits e =
    ap (word_then lit_then) (append_assoc s (58 ∷ decimal n) rest)
    ∙ (word_read lit_then s (58 ∷ (decimal n ++ rest)) good refl ∙ number_read (λ k. Lit s k) n rest fits e)

-- a word's first byte is none that another token begins with
name_at : (c : ℕ) (cs : List ℕ) → is_word c ≡ true → token_at c cs ≡ word_then name_then (c ∷ cs)
name_at c cs d =
    let other : (k : ℕ) → is_word k ≡ false → (c == k) ≡ false = λ k n. ne_eqb c k (λ same. both_ways (is_word c) (ap is_word same ∙ n) d) in
    rw (other 32 refl, other 41 refl, other 59 refl, other 40 refl, other 35 refl, other 36 refl) refl

pub token_complete : (t : Tok) (rest : List ℕ) → Good t → Stops t rest → read_token (token_bytes t ++ rest) ≡ Some (t, rest)
unfolding read_token
token_complete Blank rest g s = refl
token_complete Close rest g s = refl
token_complete Semi rest g s = refl
token_complete (Open w) rest g s = word_read open_then w rest g s
token_complete (Lit w n) rest g s = lit_read w n rest g.0 g.1 s
token_complete (Var k) rest g s = number_read (λ n. Var n) k rest g s
token_complete (Word []) rest g s = cc
token_complete (Word (c ∷ cs)) rest g s = name_at c (cs ++ rest) (and_parts _ _ g).0 ∙ word_read name_then (c ∷ cs) rest g s

-- one reading
pub one_token : (t u : Tok) (rest more : List ℕ) → Good t → Good u → Stops t rest → Stops u more → token_bytes t ++ rest ≡ token_bytes u ++ more → (t ≡ u) × (rest ≡ more)
one_token t u rest more p q s v e = some_pair_parts t u rest more (sym (token_complete t rest p s) ∙ (ap read_token e ∙ token_complete u more q v))

-- how a word is cut off
pub front_within : (text : List ℕ) → length (front text) ≤ length text
front_within text = omega (arith, ap length (parts text), length-append (front text) (behind text))

begun_by : (c : ℕ) (cs : List ℕ) (b : Bool) → 0 < length (if◌then◌else◌ {A = List ℕ} b (c ∷ front cs) []) → b ≡ true
begun_by c cs true h = refl
begun_by c cs false h = absurd (omega arith)

begun : (text : List ℕ) → 0 < length (front text) → begins_word text ≡ true
begun [] h = absurd (omega arith)
begun (c ∷ cs) h = begun_by c cs _ h

pub cut_is : (text : List ℕ) (n : ℕ) (xs ys : List ℕ) → n ≡ length (front text) → 0 < n → xs ≡ take n text → ys ≡ drop n text → ◌≡◌ {A = Option (List ℕ × List ℕ)} (Some (xs, ys)) (if◌then◌else◌ {A = Option (List ℕ × List ℕ)} (begins_word text) (Some (front text, behind text)) None)
cut_is text n xs ys count some first second =
    let one : xs ≡ front text = first ∙ ap (take n) (sym (parts text)) ∙ take_at (front text) (behind text) n (sym count) in
    let two : ys ≡ behind text = second ∙ ap (drop n) (sym (parts text)) ∙ drop_at (front text) (behind text) n (sym count) in
    rw (begun text (omega arith), one, two) refl

none_by : (c : ℕ) (cs : List ℕ) (b : Bool) → 0 ≡ length (if◌then◌else◌ {A = List ℕ} b (c ∷ front cs) []) → b ≡ false
none_by c cs true h = absurd (omega arith)
none_by c cs false h = refl

pub none_is : (text : List ℕ) → 0 ≡ length (front text) → begins_word text ≡ false
none_is [] h = refl
none_is (c ∷ cs) h = none_by c cs _ h
