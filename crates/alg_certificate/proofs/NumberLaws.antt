-- What is read as a number is its decimal text.
use Rattle.std.proofs.Common.{◌≡◌, ℕ, zero, suc, ◌+◌, ◌-◌, ◌*◌, ◌/◌, ◌%◌, ◌≤◌, ◌<◌, Bool, true, false, List, [], ◌∷◌, ◌++◌, Option, Some, None, nat_le, ◌==◌, decimal, refl, sym, ap, append-nil, subst, ◌∙◌, arith, append_assoc, le-leb, leb-true, eqb-true, ne_eqb, ◌≢◌, if◌then◌else◌}
use Rattle.std.proofs.lemmas.Fmt.{decimal_step_wide, decimal_by_steps_wide, decimal_digit}
use Rattle.std.proofs.lemmas.Bool.{and_from, eqb-false}
use Rattle.std.proofs.lemmas.Option.{none-some}
use Rattle.alg_certificate.specs.Numbers.{Read, is_digit, max_number, read_on, begins_digit, zero_before, read_number}

pub some_is : {A : Type 0} (x y : A) → ◌≡◌ {A = Option A} (Some x) (Some y) → x ≡ y
some_is x y e = cc

digit_range : (c : ℕ) → is_digit c ≡ true → (48 ≤ c) × (c ≤ 57)
digit_range c d = grind arith

digit_from : (c : ℕ) → 48 ≤ c → c ≤ 57 → is_digit c ≡ true
digit_from c a b = and_from _ _ (le-leb _ _ a) (le-leb _ _ b)

pub one_more : (m c : ℕ) → 1 ≤ m → 48 ≤ c → c ≤ 57 → m * 10 + (c - 48) ≤ max_number → decimal (m * 10 + (c - 48)) ≡ decimal m ++ c ∷ []
one_more m c some low high fits =
    let front : (m * 10 + (c - 48)) / 10 ≡ m = omega arith in
    let last : 48 + (m * 10 + (c - 48)) % 10 ≡ c = omega arith in
    decimal_step_wide (m * 10 + (c - 48)) (omega arith) (omega arith) ∙ ap (λ k. decimal k ++ (48 + (m * 10 + (c - 48)) % 10) ∷ []) front ∙ ap (λ k. decimal m ++ k ∷ []) last

abbrev pub Numbered : List ℕ → ℕ → List ℕ → Type 0
Numbered text n rest = (text ≡ decimal n ++ rest) × (n ≤ max_number) × (begins_digit rest ≡ false)

fit_on : (m c : ℕ) (cs : List ℕ) (n : ℕ) (rest : List ℕ) (b : Bool) → 1 ≤ m → is_digit c ≡ true → nat_le (m * 10 + (c - 48)) max_number ≡ b
    → (1 ≤ m * 10 + (c - 48) → m * 10 + (c - 48) ≤ max_number → read_on (m * 10 + (c - 48)) cs ≡ Some (n, rest) → Numbered (decimal (m * 10 + (c - 48)) ++ cs) n rest)
    → if◌then◌else◌ {A = Read ℕ} b (read_on (m * 10 + (c - 48)) cs) None ≡ Some (n, rest) → Numbered (decimal m ++ c ∷ cs) n rest
fit_on m c cs n rest false some d f ih e = absurd (none-some _ e)
fit_on m c cs n rest true some d f ih e =
    let range = digit_range c d in
    let more = one_more m c some range.0 range.1 (leb-true _ _ f) in
    let r = ih (omega arith) (leb-true _ _ f) e in
    (sym (append_assoc (decimal m) (c ∷ []) cs) ∙ (ap (λ x. x ++ cs) (sym more) ∙ r.0), r.1, r.2)

ends_on : (m c : ℕ) (cs : List ℕ) (n : ℕ) (rest : List ℕ) → m ≤ max_number → is_digit c ≡ false → ◌≡◌ {A = ℕ × List ℕ} (m, c ∷ cs) (n, rest) → Numbered (decimal m ++ c ∷ cs) n rest
ends_on m c cs n rest fits d e = subst (λ (x : ℕ × List ℕ). Numbered (decimal m ++ c ∷ cs) x.0 x.1) e (refl, fits, d)

digit_then : (m c : ℕ) (cs : List ℕ) (n : ℕ) (rest : List ℕ) (b : Bool) → 1 ≤ m → m ≤ max_number → is_digit c ≡ b
    → (1 ≤ m * 10 + (c - 48) → m * 10 + (c - 48) ≤ max_number → read_on (m * 10 + (c - 48)) cs ≡ Some (n, rest) → Numbered (decimal (m * 10 + (c - 48)) ++ cs) n rest)
    → if◌then◌else◌ {A = Read ℕ} b (if nat_le (m * 10 + (c - 48)) max_number then read_on (m * 10 + (c - 48)) cs else None) (Some (m, c ∷ cs)) ≡ Some (n, rest) → Numbered (decimal m ++ c ∷ cs) n rest
digit_then m c cs n rest true some fits d ih e = fit_on m c cs n rest _ some d refl ih e
digit_then m c cs n rest false some fits d ih e = ends_on m c cs n rest fits d (some_is _ _ e)

-- what goes on a number that is not 0
pub goes_on : (m : ℕ) (cs : List ℕ) (n : ℕ) (rest : List ℕ) → 1 ≤ m → m ≤ max_number → read_on m cs ≡ Some (n, rest) → Numbered (decimal m ++ cs) n rest
unfolding read_on
goes_on m [] n rest some fits e = subst (λ (x : ℕ × List ℕ). Numbered (decimal m ++ []) x.0 x.1) (some_is _ _ e) (refl, fits, refl)
goes_on m (c ∷ cs) n rest some fits e = digit_then m c cs n rest _ some fits refl (λ one below r. goes_on (m * 10 + (c - 48)) cs n rest one below r) e

-- SOUND: what is read is the decimal text of a number in range, and no digit follows
pub number_sound : (text : List ℕ) (n : ℕ) (rest : List ℕ) → read_number text ≡ Some (n, rest) → Numbered text n rest
number_sound [] n rest e = absurd (none-some _ e)
number_sound (c ∷ cs) n rest e = at_zero (c == 48) refl e
  where
    after_zero : (b : Bool) → c ≡ 48 → begins_digit cs ≡ b → if◌then◌else◌ {A = Read ℕ} b None (Some (0, cs)) ≡ Some (n, rest) → Numbered (c ∷ cs) n rest
    after_zero true z d e = absurd (none-some _ e)
    after_zero false z d e =
        let one : decimal 0 ≡ 48 ∷ [] = decimal_digit 0 (omega arith) in
        subst (λ (x : ℕ × List ℕ). Numbered (c ∷ cs) x.0 x.1) (some_is _ _ e) (ap (λ k. k ∷ cs) z ∙ ap (λ x. x ++ cs) (sym one), omega arith, d)

    at_first : (b : Bool) → c ≢ 48 → is_digit c ≡ b → if◌then◌else◌ {A = Read ℕ} b (read_on (c - 48) cs) None ≡ Some (n, rest) → Numbered (c ∷ cs) n rest
    at_first false z d e = absurd (none-some _ e)
    at_first true z d e =
        let range = digit_range c d in
        let r = goes_on (c - 48) cs n rest (omega arith) (omega arith) e in
        let back : 48 + (c - 48) ≡ c = omega arith in
        let one = decimal_digit (c - 48) (omega arith) ∙ ap (λ k. k ∷ []) back in
        (ap (λ x. x ++ cs) (sym one) ∙ r.0, r.1, r.2)

    at_zero : (b : Bool) → (c == 48) ≡ b → if◌then◌else◌ {A = Read ℕ} b (zero_before cs) (if is_digit c then read_on (c - 48) cs else None) ≡ Some (n, rest) → Numbered (c ∷ cs) n rest
    at_zero true z e = after_zero _ (eqb-true c 48 z) refl e
    at_zero false z e = at_first _ (eqb-false c 48 z) refl e

-- COMPLETE: the decimal text of a number in range is read, where no digit follows
stops : (n : ℕ) (rest : List ℕ) → begins_digit rest ≡ false → read_on n rest ≡ Some (n, rest)
unfolding read_on
stops n [] d = refl
stops n (c ∷ cs) d = rw d

digit_on : (m c : ℕ) (cs : List ℕ) → 48 ≤ c → c ≤ 57 → m * 10 + (c - 48) ≤ max_number → read_on m (c ∷ cs) ≡ read_on (m * 10 + (c - 48)) cs
unfolding read_on
digit_on m c cs low high fits = rw (digit_from c low high, le-leb _ _ fits)

first_on : (c : ℕ) (cs : List ℕ) → 48 < c → c ≤ 57 → read_number (c ∷ cs) ≡ read_on (c - 48) cs
first_on c cs low high = rw (ne_eqb c 48 (omega arith), digit_from c (omega arith) high)

abbrev Reads : ℕ → List ℕ → Type 0
Reads n ds = 1 ≤ n → n ≤ max_number → (rest : List ℕ) → read_number (ds ++ rest) ≡ read_on n rest

reads_digits : (n : ℕ) → n ≤ max_number → Reads n (decimal n)
reads_digits n fits = decimal_by_steps_wide Reads one more n (omega arith)
  where
    one : (k : ℕ) → k < 10 → Reads k ((48 + k) ∷ [])
    one k small some fits rest = let back : 48 + k - 48 ≡ k = omega arith in first_on (48 + k) rest (omega arith) (omega arith) ∙ ap (λ j. read_on j rest) back

    more : (k : ℕ) (ds : List ℕ) → 10 ≤ k → Reads (k / 10) ds → Reads k (ds ++ (48 + k % 10) ∷ [])
    more k ds large h some fits rest =
        let back : k / 10 * 10 + (48 + k % 10 - 48) ≡ k = omega arith in
        ap read_number (append_assoc ds ((48 + k % 10) ∷ []) rest)
        ∙ (h (omega arith) (omega arith) ((48 + k % 10) ∷ rest)
        ∙ (digit_on (k / 10) (48 + k % 10) rest (omega arith) (omega arith) (omega arith)
        ∙ ap (λ j. read_on j rest) back))

zero_read : (rest : List ℕ) → begins_digit rest ≡ false → read_number (48 ∷ rest) ≡ Some (0, rest)
zero_read rest d = rw d

pub number_complete : (n : ℕ) (rest : List ℕ) → n ≤ max_number → begins_digit rest ≡ false → read_number (decimal n ++ rest) ≡ Some (n, rest)
number_complete zero rest fits d = ap (λ x. read_number (x ++ rest)) (decimal_digit 0 (omega arith)) ∙ zero_read rest d
number_complete (suc n) rest fits d = reads_digits (suc n) fits (omega arith) fits rest ∙ stops (suc n) rest d

-- a number's text alone
pub number_whole : (n : ℕ) → n ≤ max_number → read_number (decimal n) ≡ Some (n, [])
number_whole n fits = ap read_number (sym (append-nil (decimal n))) ∙ number_complete n [] fits refl
