-- The levels of what is written for a tree.
use Rattle.std.proofs.Common.{◌≡◌, ℕ, List, Bool, true, false, refl, ap, sym, ◌∙◌}
use Rattle.alg_terms.specs.declared.sorts.Sort.{Sort}
use Rattle.alg_terms.specs.declared.symbols.Sym.{Sym}
use Rattle.alg_terms.specs.Tree.{Tree, Lit, Var, App, Trees, Nil, Cons, to_list}
use Rattle.alg_law.specs.Declarations.{Declaration}
use Rattle.alg_syntax.specs.Expressions as expressions
use Rattle.alg_elaborate.specs.Raw.{Raws, none, more}
use Rattle.alg_show.specs.declared.notation.Notation.{Notation}
use Rattle.alg_show.specs.declared.notation.Notation.TheVariants.{Negation, Inverse, Infix, Shared, Own}
use Rattle.alg_show.specs.Names.{function_name}
use Rattle.alg_show.specs.Notation.{notation_of}
use Rattle.alg_show.specs.Unparenthesized.{raw, raws, later_raws, number_raw, composed}
use Rattle.alg_show.specs.Shown.{is_minus, wrapped, shown, with_arguments, word}
use Rattle.alg_show.specs.Tasks.{parts_of, notation_level, is_minus_sign}

pub applied_level : (a b : expressions.Tree) (us : Raws) → expressions.level (with_arguments (expressions.apply a b) us) ≡ 76
applied_level a b none = refl
applied_level a b (more c us) = applied_level (expressions.apply a b) (wrapped 100 (shown c)) us

pub applied_minus : (a b : expressions.Tree) (us : Raws) → is_minus (with_arguments (expressions.apply a b) us) ≡ false
applied_minus a b none = refl
applied_minus a b (more c us) = applied_minus (expressions.apply a b) (wrapped 100 (shown c)) us

composed_level : (ds : List Declaration) (ask : Bool) (n : Notation) (f : List ℕ) (xs : Trees) → expressions.level (shown (composed n f (raws ds n ask xs))) ≡ notation_level n (to_list xs)
composed_level ds ask Negation f xs = refl
composed_level ds ask Inverse f xs = refl
composed_level ds ask (Infix o) f xs = refl
composed_level ds ask Shared f Nil = refl
composed_level ds ask Shared f (Cons x xs) = applied_level (expressions.name (word f)) (wrapped 100 (shown (raw ds ask x))) (later_raws ds Shared ask xs)
composed_level ds ask Own f Nil = refl
composed_level ds ask Own f (Cons x xs) = applied_level (expressions.name (word f)) (wrapped 100 (shown (raw ds false x))) (later_raws ds Own ask xs)

composed_minus : (ds : List Declaration) (ask : Bool) (n : Notation) (f : List ℕ) (xs : Trees) → is_minus (shown (composed n f (raws ds n ask xs))) ≡ is_minus_sign n
composed_minus ds ask Negation f xs = refl
composed_minus ds ask Inverse f xs = refl
composed_minus ds ask (Infix o) f xs = refl
composed_minus ds ask Shared f Nil = refl
composed_minus ds ask Shared f (Cons x xs) = applied_minus (expressions.name (word f)) (wrapped 100 (shown (raw ds ask x))) (later_raws ds Shared ask xs)
composed_minus ds ask Own f Nil = refl
composed_minus ds ask Own f (Cons x xs) = applied_minus (expressions.name (word f)) (wrapped 100 (shown (raw ds false x))) (later_raws ds Own ask xs)

number_level : (ds : List Declaration) (ask : Bool) (s : Sort) (n : ℕ) → expressions.level (shown (number_raw ds ask s n)) ≡ 100
number_level ds true s n = refl
number_level ds false s n = refl

number_minus : (ds : List Declaration) (ask : Bool) (s : Sort) (n : ℕ) → is_minus (shown (number_raw ds ask s n)) ≡ false
number_minus ds true s n = refl
number_minus ds false s n = refl

pub literal_level : (t : Tree) (s : Sort) (n : ℕ) → t ≡ Lit s n → (ds : List Declaration) (ask : Bool) → 100 ≡ expressions.level (shown (raw ds ask t))
literal_level t s n e ds ask = sym (ap (λ x. expressions.level (shown (raw ds ask x))) e ∙ number_level ds ask s n)

pub variable_level : (t : Tree) (d : ℕ) (s : Sort) → t ≡ Var d s → (ds : List Declaration) (ask : Bool) → 100 ≡ expressions.level (shown (raw ds ask t))
variable_level t d s e ds ask = sym (ap (λ x. expressions.level (shown (raw ds ask x))) e)

pub compound_level : (t : Tree) (f : Sym) (s : Sort) (xs : Trees) (n : Notation) (l : ℕ) → t ≡ App f s xs → n ≡ notation_of f → l ≡ notation_level n (parts_of t) → (ds : List Declaration) (ask : Bool) → l ≡ expressions.level (shown (raw ds ask t))
compound_level t f s xs n l e h k ds ask =
    k ∙ (ap (λ x. notation_level n (parts_of x)) e ∙ (ap (λ m. notation_level m (to_list xs)) h
    ∙ sym (ap (λ x. expressions.level (shown (raw ds ask x))) e ∙ composed_level ds ask (notation_of f) (function_name ds f) xs)))

pub literal_minus : (t : Tree) (s : Sort) (n : ℕ) → t ≡ Lit s n → (ds : List Declaration) (ask : Bool) → false ≡ is_minus (shown (raw ds ask t))
literal_minus t s n e ds ask = sym (ap (λ x. is_minus (shown (raw ds ask x))) e ∙ number_minus ds ask s n)

pub variable_minus : (t : Tree) (d : ℕ) (s : Sort) → t ≡ Var d s → (ds : List Declaration) (ask : Bool) → false ≡ is_minus (shown (raw ds ask t))
variable_minus t d s e ds ask = sym (ap (λ x. is_minus (shown (raw ds ask x))) e)

pub compound_minus : (t : Tree) (f : Sym) (s : Sort) (xs : Trees) (n : Notation) (b : Bool) → t ≡ App f s xs → n ≡ notation_of f → b ≡ is_minus_sign n → (ds : List Declaration) (ask : Bool) → b ≡ is_minus (shown (raw ds ask t))
compound_minus t f s xs n b e h k ds ask =
    k ∙ (ap is_minus_sign h
    ∙ sym (ap (λ x. is_minus (shown (raw ds ask x))) e ∙ composed_minus ds ask (notation_of f) (function_name ds f) xs))
