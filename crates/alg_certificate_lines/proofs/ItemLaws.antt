-- Items are read as they are spelled.
use Rattle.std.proofs.Common.{to_z, of_z, ◌≡◌, ℕ, suc, ◌+◌, ◌≤◌, ◌<◌, ℤ, pos, negsuc, unsigned_abs, Bool, true, false, ◌==◌, List, [], ◌∷◌, ◌++◌, length, All, Option, Some, None, codes, decimal, refl, sym, ap, subst, ◌∙◌, arith, ne_eqb, ◌%◌, append-nil, append_assoc, length-append, if◌then◌else◌}
use Rattle.std.specs.Int.{w128}
use Rattle.std.proofs.lemmas.Int.{to_z-of_z, fits_signed_from_abs}
use Rattle.std.proofs.lemmas.Fmt.{decimal_by_steps_wide}
use Rattle.std.proofs.lemmas.Bool.{and_parts}
use Rattle.std.proofs.lemmas.List.Elements.{All-head, All-tail}
use Rattle.std.proofs.lemmas.Option.{none-some}
use Rattle.alg_certificate.specs.Numbers.{Read, max_number}
use Rattle.alg_certificate.proofs.NumberLaws.{some_is}
use Rattle.alg_certificate.proofs.LexingLaws.{parts}
use Rattle.alg_certificate.proofs.Walkable.{items_quiet}
use Rattle.alg_certificate.proofs.Wordlike.{number_word}
use Rattle.alg_certificate.specs.Cutting.{after}
use Rattle.alg_certificate.specs.Tokens.{begins_word, is_some_word, front, behind}
use Rattle.alg_certificate.specs.Words.{numeral_bytes}
use Rattle.alg_certificate.specs.Spelling.{Item, word, bytes, spell_items, numbers, numerals, IsInRange}
use Rattle.alg_certificate_lines.specs.Words.{number_named, unsigned, negated, behind_sign, numeral_named}
use Rattle.alg_certificate_lines.specs.Following.{CutWord, word_behind, next_word, with_rest, number_of_word, next_number, number_alone, one_number, before_one, then_one, two_numbers, before_two, then_two, three_numbers, word_before_two, word_then_two, word_and_two, numeral_before, numeral_of_word, next_numeral}
use Rattle.alg_certificate_lines.proofs.Naming.{number_is}
use Rattle.alg_certificate_lines.proofs.GivenLaws.{cut_first}

pub word_first : (w : List ℕ) (is : List Item) → is_some_word w ≡ true → next_word (bytes (spell_items (word w ∷ is))) ≡ Some (w, bytes (spell_items is))
word_first w is good = cut_first w (bytes (spell_items is)) good (items_quiet is)

pub number_first : (n : ℕ) (is : List Item) → n ≤ max_number → next_number (bytes (spell_items (word (decimal n) ∷ is))) ≡ Some (n, bytes (spell_items is))
number_first n is fits = ap number_of_word (word_first (decimal n) is (number_word n fits)) ∙ ap (λ o. with_rest o (bytes (spell_items is))) (number_is n fits)

pub one_spelled : (n : ℕ) (text : List ℕ) → n ≤ max_number → bytes (spell_items (numbers (n ∷ []))) ≡ text → one_number text ≡ Some n
one_spelled n text f e = ap one_number (sym e) ∙ ap number_alone (number_first n [] f)

pub two_spelled : (m n : ℕ) (text : List ℕ) → m ≤ max_number → n ≤ max_number → bytes (spell_items (numbers (m ∷ n ∷ []))) ≡ text → two_numbers text ≡ Some (m, n)
two_spelled m n text f g e = ap two_numbers (sym e) ∙ (ap then_one (number_first m (numbers (n ∷ [])) f) ∙ ap (before_one m) (one_spelled n _ g refl))

pub three_spelled : (k m n : ℕ) (text : List ℕ) → k ≤ max_number → m ≤ max_number → n ≤ max_number → bytes (spell_items (numbers (k ∷ m ∷ n ∷ []))) ≡ text → three_numbers text ≡ Some (k, m, n)
three_spelled k m n text f g h e = ap three_numbers (sym e) ∙ (ap then_two (number_first k (numbers (m ∷ n ∷ [])) f) ∙ ap (before_two k) (two_spelled m n _ g h refl))

pub literals_spelled : (w : List ℕ) (m n : ℕ) (text : List ℕ) → is_some_word w ≡ true → m ≤ max_number → n ≤ max_number → bytes (spell_items (word w ∷ numbers (m ∷ n ∷ []))) ≡ text → word_and_two text ≡ Some (w, m, n)
literals_spelled w m n text good f g e = ap word_and_two (sym e) ∙ (ap word_then_two (word_first w (numbers (m ∷ n ∷ [])) good) ∙ ap (word_before_two w) (two_spelled m n _ f g refl))

-- numerals
minus_word : (n : ℕ) → n ≤ max_number → is_some_word (45 ∷ decimal n) ≡ true
minus_word n f = (and_parts _ _ (number_word n f)).1

numeral_word : (x : ℤ) → unsigned_abs x ≤ max_number → is_some_word (numeral_bytes x) ≡ true
numeral_word (pos n) f = number_word n f
numeral_word (negsuc n) f = minus_word (suc n) f

push_unsigned : (ds : List ℕ) (c : ℕ) → after (codes "-") ds ≡ None → (c == 45) ≡ false → after (codes "-") (ds ++ c ∷ []) ≡ None
push_unsigned [] c e d = rw d refl
push_unsigned (x ∷ xs) c e d = by_first _ refl e
  where
    by_first : (b : Bool) → (x == 45) ≡ b → if◌then◌else◌ {A = Option (List ℕ)} b (Some xs) None ≡ None → if◌then◌else◌ {A = Option (List ℕ)} (x == 45) (Some (xs ++ c ∷ [])) None ≡ None
    by_first true h g = absurd (none-some _ (sym g))
    by_first false h g = ap (λ b. if◌then◌else◌ {A = Option (List ℕ)} b (Some (xs ++ c ∷ [])) None) h

no_sign : (n : ℕ) → n ≤ max_number → after (codes "-") (decimal n) ≡ None
no_sign n fits = decimal_by_steps_wide (λ k ds. after (codes "-") ds ≡ None) (λ k small. push_unsigned [] (48 + k) refl (ne_eqb (48 + k) 45 (λ e. omega (arith, e))))
    (λ k ds large h. push_unsigned ds (48 + k % 10) h (ne_eqb (48 + k % 10) 45 (λ e. omega (arith, e)))) n (omega arith)

numeral_is : (x : ℤ) → unsigned_abs x ≤ max_number → numeral_named (numeral_bytes x) ≡ Some x
numeral_is (pos n) f = ap (λ o. behind_sign o (decimal n)) (no_sign n f) ∙ ap unsigned (number_is n f)
numeral_is (negsuc n) f = ap negated (number_is (suc n) f)

numeral_first : (x : ℤ) (is : List Item) → unsigned_abs x ≤ max_number → next_numeral (bytes (spell_items (word (numeral_bytes x) ∷ is))) ≡ Some (x, bytes (spell_items is))
numeral_first x is fits = ap numeral_of_word (word_first (numeral_bytes x) is (numeral_word x fits)) ∙ ap (λ o. numeral_before o (bytes (spell_items is))) (numeral_is x fits)

-- what follows a word is shorter
word_shorter : (text w rest : List ℕ) → next_word text ≡ Some (w, rest) → length rest < length text
word_shorter [] w rest e = absurd (none-some _ e)
word_shorter (c ∷ cs) w rest e = by_blank _ e
  where
    by_word : (b : Bool) → if◌then◌else◌ {A = CutWord} b (Some (front cs, behind cs)) None ≡ Some (w, rest) → length rest < suc (length cs)
    by_word true d =
        let same : behind cs ≡ rest = ap (λ (x : List ℕ × List ℕ). x.1) (some_is (front cs, behind cs) (w, rest) d) in
        let whole : length (front cs) + length (behind cs) ≡ length cs = sym (length-append (front cs) (behind cs)) ∙ ap length (parts cs) in
        omega (arith, whole, ap length same)
    by_word false d = absurd (none-some _ d)

    by_blank : (b : Bool) → word_behind (if◌then◌else◌ {A = Option (List ℕ)} b (Some cs) None) ≡ Some (w, rest) → length rest < suc (length cs)
    by_blank true d = by_word (begins_word cs) d
    by_blank false d = absurd (none-some _ d)

pub number_shorter : (text : List ℕ) (n : ℕ) (rest : List ℕ) → next_number text ≡ Some (n, rest) → length rest < length text
number_shorter text n rest e = by_word _ refl e
  where
    by_number : (w more : List ℕ) (o : Option ℕ) → next_word text ≡ Some (w, more) → with_rest o more ≡ Some (n, rest) → length rest < length text
    by_number w more None h d = absurd (none-some _ d)
    by_number w more (Some k) h d = subst (λ x. length x < length text) (ap (λ (x : ℕ × List ℕ). x.1) (some_is (k, more) (n, rest) d)) (word_shorter text w more h)

    by_word : (o : CutWord) → next_word text ≡ o → number_of_word o ≡ Some (n, rest) → length rest < length text
    by_word None h d = absurd (none-some _ d)
    by_word (Some x) h d = by_number x.0 x.1 (number_named x.0) h d

pub numeral_shorter : (text : List ℕ) (n : ℤ) (rest : List ℕ) → next_numeral text ≡ Some (n, rest) → length rest < length text
numeral_shorter text n rest e = by_word _ refl e
  where
    by_numeral : (w more : List ℕ) (o : Option ℤ) → next_word text ≡ Some (w, more) → numeral_before o more ≡ Some (n, rest) → length rest < length text
    by_numeral w more None h d = absurd (none-some _ d)
    by_numeral w more (Some k) h d = subst (λ x. length x < length text) (ap (λ (x : ℤ × List ℕ). x.1) (some_is (k, more) (n, rest) d)) (word_shorter text w more h)

    by_word : (o : CutWord) → next_word text ≡ o → numeral_of_word o ≡ Some (n, rest) → length rest < length text
    by_word None h d = absurd (none-some _ d)
    by_word (Some x) h d = by_numeral x.0 x.1 (numeral_named x.0) h d

-- what was found of a spelled list, and what is left
abbrev pub Found : {A : Type 0} → (A → Type 0) → (List A → List ℕ) → List ℕ → List ℕ → List A → Type 0
Found {A} Fits spelled all left found = (xs : List A) → All Fits xs → spelled xs ≡ all → (ys : List A) × All Fits ys × (spelled ys ≡ left) × (found ++ ys ≡ xs)

pub found_none : {A : Type 0} (Fits : A → Type 0) (spelled : List A → List ℕ) (all : List ℕ) (found : List A) → found ≡ [] → Found Fits spelled all all found
found_none Fits spelled all found e = λ xs f h. (xs, f, h, ap (λ ys. ys ++ xs) e)

pub found_on : {A : Type 0} (Fits : A → Type 0) (spelled : List A → List ℕ) (next : List ℕ → Read A) (none : next (spelled []) ≡ None) (first : (x : A) (xs : List A) → Fits x → next (spelled (x ∷ xs)) ≡ Some (x, spelled xs))
    (all left : List ℕ) (x : A) (rest : List ℕ) (found more : List A) → Found Fits spelled all left found → next left ≡ Some (x, rest) → (Fits x → more ≡ found ++ x ∷ []) → Found Fits spelled all rest more
found_on {A} Fits spelled next none first all left x rest found more h n m = λ xs f e. let p = h xs f e in at xs p.0 p.1 p.2 p.3
  where
    at : (xs ys : List A) → All Fits ys → spelled ys ≡ left → found ++ ys ≡ xs → (zs : List A) × All Fits zs × (spelled zs ≡ rest) × (more ++ zs ≡ xs)
    at xs [] f e s = absurd (none-some _ (sym none ∙ (ap next e ∙ n)))
    at xs (y ∷ ys) f e s =
        let same : ◌≡◌ {A = A × List ℕ} (y, spelled ys) (x, rest) = some_is _ _ (sym (first y ys (All-head Fits y ys f)) ∙ (ap next e ∙ n)) in
        (ys, All-tail Fits y ys f, ap (λ (p : A × List ℕ). p.1) same, ap (λ zs. zs ++ ys) (m (subst Fits (ap (λ (p : A × List ℕ). p.0) same) (All-head Fits y ys f))) ∙ (append_assoc found (x ∷ []) ys ∙ (ap (λ z. found ++ z ∷ ys) (sym (ap (λ (p : A × List ℕ). p.0) same)) ∙ s)))

pub found_all : {A : Type 0} (Fits : A → Type 0) (spelled : List A → List ℕ) (next : List ℕ → Read A) (first : (x : A) (xs : List A) → Fits x → next (spelled (x ∷ xs)) ≡ Some (x, spelled xs))
    (all left : List ℕ) (found : List A) → Found Fits spelled all left found → next left ≡ None → (xs : List A) → All Fits xs → spelled xs ≡ all → found ≡ xs
found_all {A} Fits spelled next first all left found h n xs f e = let p = h xs f e in at p.0 p.1 p.2 p.3
  where
    at : (ys : List A) → All Fits ys → spelled ys ≡ left → found ++ ys ≡ xs → found ≡ xs
    at [] g d s = sym (append-nil found) ∙ s
    at (y ∷ ys) g d s = absurd (none-some _ (sym n ∙ (ap next (sym d) ∙ first y ys (All-head Fits y ys g))))

abbrev pub NumbersFound : List ℕ → List ℕ → List ℕ → Type 0
NumbersFound all left found = Found IsInRange (λ ns. bytes (spell_items (numbers ns))) all left found

abbrev pub numerals_text : List ℤ → List ℕ
numerals_text xs = bytes (spell_items (numerals xs))

abbrev pub NumeralFits : ℤ → Type 0
NumeralFits x = IsInRange (unsigned_abs x)

abbrev pub NumeralsFound : List ℕ → List ℕ → List ℤ → Type 0
NumeralsFound all left found = Found NumeralFits numerals_text all left found

pub numbers_on : (all left : List ℕ) (x : ℕ) (rest : List ℕ) (found more : List ℕ) → NumbersFound all left found → next_number left ≡ Some (x, rest) → more ≡ found ++ x ∷ [] → NumbersFound all rest more
numbers_on all left x rest found more h n m = found_on IsInRange (λ ns. bytes (spell_items (numbers ns))) next_number refl (λ y ys f. number_first y (numbers ys) f) all left x rest found more h n (λ f. m)

pub numbers_all : (all left found : List ℕ) → NumbersFound all left found → next_number left ≡ None → (xs : List ℕ) → All IsInRange xs → bytes (spell_items (numbers xs)) ≡ all → found ≡ xs
numbers_all all left found h n = found_all IsInRange (λ ns. bytes (spell_items (numbers ns))) next_number (λ y ys f. number_first y (numbers ys) f) all left found h n

pub numerals_on : (all left : List ℕ) (x : ℤ) (rest : List ℕ) (found more : List ℤ) → NumeralsFound all left found → next_numeral left ≡ Some (x, rest) → more ≡ found ++ to_z w128 (of_z w128 x) ∷ [] → NumeralsFound all rest more
numerals_on all left x rest found more h n m = found_on NumeralFits numerals_text next_numeral refl (λ y ys f. numeral_first y (numerals ys) f) all left x rest found more h n (λ f. m ∙ ap (λ z. found ++ z ∷ []) (to_z-of_z w128 x (fits_signed_from_abs w128 x (omega (arith, f)))))

pub numerals_all : (all left : List ℕ) (found : List ℤ) → NumeralsFound all left found → next_numeral left ≡ None → (xs : List ℤ) → All NumeralFits xs → numerals_text xs ≡ all → found ≡ xs
numerals_all all left found h n = found_all NumeralFits numerals_text next_numeral (λ y ys f. numeral_first y (numerals ys) f) all left found h n
