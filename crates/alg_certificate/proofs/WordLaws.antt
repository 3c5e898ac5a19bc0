-- What a word is that passes a test.
use Rattle.std.proofs.Common.{◌≡◌, ℕ, ◌≤◌, Bool, true, false, ◌||◌, List, [], ◌∷◌, ◌++◌, Option, Some, None, ◌==◌, codes, decimal, refl, sym, ap, ◌∙◌, eqb-true, append-nil, if◌then◌else◌}
use Rattle.std.proofs.lemmas.Option.{none-some}
use Rattle.alg_terms.specs.declared.sorts.Sort.{Sort}
use Rattle.alg_terms.specs.declared.sorts.Sort.TheVariants as sort
use Rattle.alg_terms.specs.declared.symbols.Sym.{Sym}
use Rattle.alg_terms.specs.declared.symbols.Sym.TheVariants as symbol
use Rattle.alg_certificate.specs.Numbers.{Read, read_number, max_number}
use Rattle.alg_certificate.specs.Cutting.{after, is_empty}
use Rattle.alg_certificate.specs.Words.{sort_bytes, symbol_bytes, leaves_nothing, is_word_of, ends, is_number, then_number, is_sort, is_symbol, is_sum_word, is_power_word, is_order_word, is_natural_word}
use Rattle.alg_certificate.specs.Spelling.{SortFits, SymbolFits}
use Rattle.alg_certificate.proofs.NumberLaws.{number_sound}

is_by : (p : ℕ) (ps : List ℕ) (c : ℕ) (cs rest : List ℕ) (b : Bool) → (c == p) ≡ b → (after ps cs ≡ Some rest → cs ≡ ps ++ rest) → if◌then◌else◌ {A = Option (List ℕ)} b (after ps cs) None ≡ Some rest → c ∷ cs ≡ p ∷ (ps ++ rest)
is_by p ps c cs rest false d ih e = absurd (none-some _ e)
is_by p ps c cs rest true d ih e = ap (λ k. k ∷ cs) (eqb-true c p d) ∙ ap (λ x. p ∷ x) (ih e)

pub after_is : (p text rest : List ℕ) → after p text ≡ Some rest → text ≡ p ++ rest
after_is [] text rest e = cc
after_is (p ∷ ps) [] rest e = absurd (none-some _ e)
after_is (p ∷ ps) (c ∷ cs) rest e = is_by p ps c cs rest _ refl (λ h. after_is ps cs rest h) e

pub nothing_left : (x : List ℕ) → is_empty x ≡ true → x ≡ []
nothing_left [] e = refl
nothing_left (c ∷ cs) e = cc

word_by : (p w : List ℕ) (o : Option (List ℕ)) → after p w ≡ o → leaves_nothing o ≡ true → p ≡ w
word_by p w None e d = cc
word_by p w (Some rest) e d = sym (after_is p w rest e ∙ (ap (λ x. p ++ x) (nothing_left rest d) ∙ append-nil p))

pub word_is : (p w : List ℕ) → is_word_of p w ≡ true → p ≡ w
word_is p w e = word_by p w _ refl e

number_by : (w : List ℕ) (o : Read ℕ) → read_number w ≡ o → ends o ≡ true → (n : ℕ) × (n ≤ max_number) × (decimal n ≡ w)
number_by w None e d = cc
number_by w (Some x) e d =
    let s = number_sound w x.0 x.1 e in
    (x.0, s.1, sym (s.0 ∙ (ap (λ r. decimal x.0 ++ r) (nothing_left x.1 d) ∙ append-nil (decimal x.0))))

pub number_is : (w : List ℕ) → is_number w ≡ true → (n : ℕ) × (n ≤ max_number) × (decimal n ≡ w)
number_is w e = number_by w _ refl e

numbered_by : (p w : List ℕ) (o : Option (List ℕ)) → after p w ≡ o → then_number o ≡ true → (n : ℕ) × (n ≤ max_number) × (p ++ decimal n ≡ w)
numbered_by p w None e d = cc
numbered_by p w (Some rest) e d = let s = number_is rest d in (s.0, s.1, ap (λ x. p ++ x) s.2 ∙ sym (after_is p w rest e))

pub either : {C : Type 0} (a b : Bool) → (a ≡ true → C) → (b ≡ true → C) → (a || b) ≡ true → C
either true b f g e = f refl
either false b f g e = g e

abbrev pub SortOf : List ℕ → Type 0
SortOf w = (s : Sort) × SortFits s × (sort_bytes s ≡ w)

pub sort_is : (w : List ℕ) → is_sort w ≡ true → SortOf w
sort_is w e =
    either {C = SortOf w} _ _ (λ h. (sort.Nat, tt, word_is (codes "N") w h))
    (either {C = SortOf w} _ _ (λ h. (sort.Int, tt, word_is (codes "Z") w h))
    (either {C = SortOf w} _ _ (λ h. (sort.Rat, tt, word_is (codes "Q") w h))
    (λ h. let n = numbered_by (codes "t") w _ refl h in (sort.Decl n.0, n.1, n.2)))) e

abbrev pub SymbolOf : List ℕ → Type 0
SymbolOf w = (f : Sym) × SymbolFits f × (symbol_bytes f ≡ w)

sum_is : (w : List ℕ) → is_sum_word w ≡ true → SymbolOf w
sum_is w e =
    either {C = SymbolOf w} _ _ (λ h. (symbol.Add, tt, word_is (codes "add") w h))
    (either {C = SymbolOf w} _ _ (λ h. (symbol.Mul, tt, word_is (codes "mul") w h))
    (either {C = SymbolOf w} _ _ (λ h. (symbol.Neg, tt, word_is (codes "neg") w h))
    (either {C = SymbolOf w} _ _ (λ h. (symbol.Sub, tt, word_is (codes "sub") w h))
    (either {C = SymbolOf w} _ _ (λ h. (symbol.Inv, tt, word_is (codes "inv") w h))
    (λ h. (symbol.Div, tt, word_is (codes "div") w h)))))) e

power_is : (w : List ℕ) → is_power_word w ≡ true → SymbolOf w
power_is w e =
    either {C = SymbolOf w} _ _ (λ h. (symbol.Npow, tt, word_is (codes "npow") w h))
    (either {C = SymbolOf w} _ _ (λ h. (symbol.Zpow, tt, word_is (codes "zpow") w h))
    (either {C = SymbolOf w} _ _ (λ h. (symbol.Nsmul, tt, word_is (codes "nsmul") w h))
    (λ h. (symbol.Zsmul, tt, word_is (codes "zsmul") w h)))) e

order_is : (w : List ℕ) → is_order_word w ≡ true → SymbolOf w
order_is w e =
    either {C = SymbolOf w} _ _ (λ h. (symbol.Abs, tt, word_is (codes "abs") w h))
    (either {C = SymbolOf w} _ _ (λ h. (symbol.Min, tt, word_is (codes "min") w h))
    (λ h. (symbol.Max, tt, word_is (codes "max") w h))) e

natural_is : (w : List ℕ) → is_natural_word w ≡ true → SymbolOf w
natural_is w e =
    either {C = SymbolOf w} _ _ (λ h. (symbol.NatSub, tt, word_is (codes "natsub") w h))
    (either {C = SymbolOf w} _ _ (λ h. (symbol.IDiv, tt, word_is (codes "idiv") w h))
    (either {C = SymbolOf w} _ _ (λ h. (symbol.Mod, tt, word_is (codes "mod") w h))
    (either {C = SymbolOf w} _ _ (λ h. (symbol.Gcd, tt, word_is (codes "gcd") w h))
    (either {C = SymbolOf w} _ _ (λ h. (symbol.Lcm, tt, word_is (codes "lcm") w h))
    (either {C = SymbolOf w} _ _ (λ h. (symbol.Fact, tt, word_is (codes "fact") w h))
    (either {C = SymbolOf w} _ _ (λ h. (symbol.Choose, tt, word_is (codes "choose") w h))
    (λ h. (symbol.Fib, tt, word_is (codes "fib") w h)))))))) e

pub symbol_is : (w : List ℕ) → is_symbol w ≡ true → SymbolOf w
symbol_is w e =
    either {C = SymbolOf w} _ _ (sum_is w)
    (either {C = SymbolOf w} _ _ (power_is w)
    (either {C = SymbolOf w} _ _ (order_is w)
    (either {C = SymbolOf w} _ _ (natural_is w)
    (λ h. let n = numbered_by (codes "@") w _ refl h in (symbol.Apply n.0, n.1, n.2))))) e
