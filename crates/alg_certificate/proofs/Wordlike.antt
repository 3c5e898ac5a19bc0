-- What may stand for a word is a word.
use Rattle.std.proofs.Common.{◌≡◌, ℕ, ◌+◌, ◌%◌, ◌≤◌, true, List, [], ◌∷◌, ◌++◌, Option, Some, None, codes, decimal, refl, sym, subst, arith, le-leb}
use Rattle.std.proofs.lemmas.Fmt.{decimal_by_steps_wide}
use Rattle.std.proofs.lemmas.Bool.{and_parts, and_from}
use Rattle.alg_terms.specs.declared.sorts.Sort.{Sort}
use Rattle.alg_terms.specs.declared.sorts.Sort.TheVariants as sort
use Rattle.alg_terms.specs.declared.symbols.Sym.{Sym}
use Rattle.alg_terms.specs.declared.symbols.Sym.TheVariants as symbol
use Rattle.alg_proof.specs.Names.{is_name_byte, are_name_bytes, is_name}
use Rattle.alg_certificate.specs.declared.patterns.Slot.{Slot}
use Rattle.alg_certificate.specs.declared.patterns.Slot.TheVariants as slot
use Rattle.alg_certificate.specs.Numbers.{Read, read_number, max_number}
use Rattle.alg_certificate.specs.Cutting.{after, is_empty}
use Rattle.alg_certificate.specs.Tokens.{is_word, all_word, is_some_word}
use Rattle.alg_certificate.specs.Words.{sort_bytes, symbol_bytes, is_number, ends_above, then_positive, is_sort, is_symbol, is_comparison, is_word_of}
use Rattle.alg_certificate.specs.Spelling.{SortFits, SymbolFits}
use Rattle.alg_certificate.specs.Walks.{word_fits}
use Rattle.alg_certificate.proofs.WordLaws.{after_is, word_is, number_is, sort_is, symbol_is, either}

digit_word : (c : ℕ) → 48 ≤ c → c ≤ 57 → is_word c ≡ true
digit_word c a b = rw (le-leb _ _ a, le-leb _ _ b) refl

push_word : (cs : List ℕ) (c : ℕ) → all_word cs ≡ true → is_word c ≡ true → all_word (cs ++ c ∷ []) ≡ true
push_word [] c a d = rw d refl
push_word (x ∷ xs) c a d = let p = and_parts (is_word x) (all_word xs) a in and_from _ _ p.0 (push_word xs c p.1 d)

push_some : (cs : List ℕ) (c : ℕ) → is_some_word cs ≡ true → is_word c ≡ true → is_some_word (cs ++ c ∷ []) ≡ true
push_some [] c a d = cc
push_some (x ∷ xs) c a d = let p = and_parts (is_word x) (all_word (x ∷ xs)) a in and_from _ _ p.0 (push_word (x ∷ xs) c p.1 d)

one_word : (c : ℕ) → is_word c ≡ true → is_some_word (c ∷ []) ≡ true
one_word c d = rw d refl

pub number_word : (n : ℕ) → n ≤ max_number → is_some_word (decimal n) ≡ true
number_word n fits = decimal_by_steps_wide (λ k ds. is_some_word ds ≡ true) (λ k small. one_word (48 + k) (digit_word (48 + k) (omega arith) (omega arith)))
    (λ k ds large h. push_some ds (48 + k % 10) h (digit_word (48 + k % 10) (omega arith) (omega arith))) n (omega arith)

-- behind a first byte
behind_byte : (c : ℕ) (w : List ℕ) → is_word c ≡ true → is_some_word w ≡ true → is_some_word (c ∷ w) ≡ true
behind_byte c w d e = and_from _ _ d (and_from _ _ d (and_parts _ (all_word w) e).1)

pub sort_word : (s : Sort) → SortFits s → is_some_word (sort_bytes s) ≡ true
sort_word sort.Nat f = refl
sort_word sort.Int f = refl
sort_word sort.Rat f = refl
sort_word (sort.Decl k) f = behind_byte 116 (decimal k) refl (number_word k f)

pub symbol_word : (f : Sym) → SymbolFits f → is_some_word (symbol_bytes f) ≡ true
symbol_word symbol.Add f = refl
symbol_word symbol.Mul f = refl
symbol_word symbol.Neg f = refl
symbol_word symbol.Sub f = refl
symbol_word symbol.Inv f = refl
symbol_word symbol.Div f = refl
symbol_word symbol.Npow f = refl
symbol_word symbol.Zpow f = refl
symbol_word symbol.Nsmul f = refl
symbol_word symbol.Zsmul f = refl
symbol_word symbol.Abs f = refl
symbol_word symbol.Min f = refl
symbol_word symbol.Max f = refl
symbol_word symbol.NatSub f = refl
symbol_word symbol.IDiv f = refl
symbol_word symbol.Mod f = refl
symbol_word symbol.Gcd f = refl
symbol_word symbol.Lcm f = refl
symbol_word symbol.Fact f = refl
symbol_word symbol.Choose f = refl
symbol_word symbol.Fib f = refl
symbol_word (symbol.Apply k) f = behind_byte 64 (decimal k) refl (number_word k f)

abbrev IsWord : List ℕ → Type 0
IsWord w = is_some_word w ≡ true

named : (p w : List ℕ) → IsWord p → is_word_of p w ≡ true → IsWord w
named p w h e = subst IsWord (word_is p w e) h

numbered : (w : List ℕ) → is_number w ≡ true → IsWord w
numbered w e = let n = number_is w e in subst IsWord n.2 (number_word n.0 n.1)

sorted : (w : List ℕ) → is_sort w ≡ true → IsWord w
sorted w e = let s = sort_is w e in subst IsWord s.2 (sort_word s.0 s.1)

headed : (w : List ℕ) → is_symbol w ≡ true → IsWord w
headed w e = let s = symbol_is w e in subst IsWord s.2 (symbol_word s.0 s.1)

compared : (w : List ℕ) → is_comparison w ≡ true → IsWord w
compared w e = either _ _ (named (codes "ne") w refl) (either _ _ (named (codes "lt") w refl) (named (codes "le") w refl)) e

positive_by : (w : List ℕ) (o : Read ℕ) → read_number w ≡ o → ends_above o ≡ true → is_number w ≡ true
positive_by w None d e = cc
positive_by w (Some x) d e = rw d (and_parts (is_empty x.1) _ e).0

signed_by : (w : List ℕ) (o : Option (List ℕ)) → after (45 ∷ []) w ≡ o → then_positive o ≡ true → IsWord w
signed_by w None d e = cc
signed_by w (Some rest) d e = subst IsWord (sym (after_is (45 ∷ []) w rest d)) (behind_byte 45 rest refl (numbered rest (positive_by rest _ refl e)))

name_byte : (b : ℕ) → is_name_byte b ≡ true → is_word b ≡ true
name_byte b e = grind arith

name_bytes : (w : List ℕ) → are_name_bytes w ≡ true → all_word w ≡ true
name_bytes [] e = refl
name_bytes (b ∷ bs) e = let p = and_parts (is_name_byte b) (are_name_bytes bs) e in and_from _ _ (name_byte b p.0) (name_bytes bs p.1)

pub name_word : (w : List ℕ) → is_name w ≡ true → IsWord w
name_word [] e = cc
name_word (b ∷ bs) e =
    let p = and_parts (is_name_byte b) (are_name_bytes bs) e in
    and_from _ _ (name_byte b p.0) (and_from _ _ (name_byte b p.0) (name_bytes bs p.1))

pub fitting_word : (s : Slot) (w : List ℕ) → word_fits s w ≡ true → is_some_word w ≡ true
fitting_word slot.Tree w e = cc
fitting_word slot.Number w e = numbered w e
fitting_word slot.Sort w e = sorted w e
fitting_word slot.Symbol w e = headed w e
fitting_word slot.Relation w e = either _ _ (named (codes "eq") w refl) (either _ _ (named (codes "dvd") w refl) (compared w)) e
fitting_word slot.Comparison w e = compared w e
fitting_word slot.Name w e = name_word w e
fitting_word slot.Bridge w e = either _ _ (named (codes "smul") w refl) (either _ _ (named (codes "zsmul") w refl) (named (codes "zpow") w refl)) e
fitting_word slot.Head w e = either _ _ (named (codes "dvd") w refl) (headed w) e
fitting_word slot.Numeral w e = either _ _ (numbered w) (signed_by w _ refl) e
fitting_word slot.Semicolon w e = cc
