-- The atoms that are found in one pass are those of the definitions.
use Rattle.std.proofs.Common.{◌≡◌, ℕ, List, [], ◌∷◌, ◌++◌, length, refl, ap, ap₂, sym, ◌∙◌, Bool, true, false, Option, Some, None, append-nil}
use Rattle.std.specs.Prelude.{◌||◌, flat_map, nat_lt}
use Rattle.std.proofs.lemmas.Grind.{flat_map-append}
use Rattle.alg_terms.specs.declared.symbols.Sym.TheVariants.{Add, Mul, Neg, Sub, Inv, Div, Npow}
use Rattle.alg_terms.specs.Tree.{Tree, Lit, Var, App, Nil, Cons}
use Rattle.alg_terms.specs.Order.{tree_same}
use Rattle.alg_sums.specs.Ratio.{Ratio}
use Rattle.alg_sums.specs.Rational.{rational}
use Rattle.alg_expansions.specs.Setting.{Setting}
use Rattle.alg_expansions.specs.Numerals.{numeral}
use Rattle.alg_expansions.specs.Closed.{closed_value}
use Rattle.alg_expansions.specs.Visited.{where_there, where_lacking, visited, own_atoms, atoms, is_listed, distinct}
use Rattle.alg_expansions.specs.Cost.{have_many_atoms}
use Rattle.alg_ring_range.specs.Numbers.{Numbers}
use Rattle.alg_ring_range.specs.Atoms.{power_atoms, inverse_atoms, visited_atoms}
use Rattle.alg_ring_range.proofs.Fractions.{as_fraction}
use Rattle.alg_ring_range.proofs.Agreement.{numbers-agree}
use Rattle.alg_ring_range.proofs.Once.{is_listed-append, is_listed-distinct, distinct-once, as_many}

or_turned : (a b : Bool) → (a || b) ≡ (b || a)
or_turned true true = refl
or_turned true false = refl
or_turned false true = refl
or_turned false false = refl

-- lists with the same trees
abbrev AreAlike : List Tree → List Tree → Type 0
AreAlike us vs = (x : Tree) → is_listed x us ≡ is_listed x vs

alike_both : (us vs us' vs' : List Tree) → AreAlike us us' → AreAlike vs vs' → AreAlike (us ++ vs) (us' ++ vs')
alike_both us vs us' vs' h i x = is_listed-append x us vs ∙ ap₂ (λ b c. b || c) (h x) (i x) ∙ sym (is_listed-append x us' vs')

alike_turned : (us vs : List Tree) → AreAlike (us ++ vs) (vs ++ us)
alike_turned us vs x = is_listed-append x us vs ∙ or_turned (is_listed x us) (is_listed x vs) ∙ sym (is_listed-append x vs us)

alike_to : (us vs ws : List Tree) → AreAlike us vs → vs ≡ ws → AreAlike us ws
alike_to us vs ws h e x = h x ∙ ap (is_listed x) e

module _ (k : Setting) where
  abbrev own : List Tree → List Tree
  own ts = flat_map (own_atoms rational k) ts

  own_both : (us vs : List Tree) → own us ++ own vs ≡ own (us ++ vs)
  own_both us vs = sym (flat_map-append (own_atoms rational k) us vs)

  two_parts : (a b : Tree) → AreAlike (visited_atoms k a) (atoms rational k a) → AreAlike (visited_atoms k b) (atoms rational k b) → AreAlike (visited_atoms k a ++ visited_atoms k b) (own (visited rational k a ++ visited rational k b))
  two_parts a b h i = alike_to (visited_atoms k a ++ visited_atoms k b) (own (visited rational k a) ++ own (visited rational k b)) (own (visited rational k a ++ visited rational k b)) (alike_both (visited_atoms k a) (visited_atoms k b) (atoms rational k a) (atoms rational k b) h i) (own_both (visited rational k a) (visited rational k b))

  power_alike : (t a e : Tree) (o : Option ℕ) → AreAlike (visited_atoms k a) (atoms rational k a) → AreAlike (visited_atoms k e) (atoms rational k e) → AreAlike (power_atoms t o (visited_atoms k a) (visited_atoms k e)) (where_lacking o (t ∷ []) ++ own (where_there o (visited rational k a ++ visited rational k e)))
  power_alike t a e (Some n) h i = two_parts a e h i
  power_alike t a e None h i = λ x. refl

  inverse_alike : (t b : Tree) (o : Option Ratio) → AreAlike (visited_atoms k b) (atoms rational k b) → AreAlike (inverse_atoms t (as_fraction o) (visited_atoms k b)) (where_lacking o (t ∷ []) ++ own (where_there o (visited rational k b)))
  inverse_alike t b (Some c) h = h
  inverse_alike t b None h = λ x. refl

  quotient_alike : (t a b : Tree) (o : Option Ratio) → AreAlike (visited_atoms k a) (atoms rational k a) → AreAlike (visited_atoms k b) (atoms rational k b) → AreAlike (visited_atoms k a ++ inverse_atoms t (as_fraction o) (visited_atoms k b)) (where_lacking o (t ∷ []) ++ own (visited rational k a ++ where_there o (visited rational k b)))
  quotient_alike t a b (Some c) h i = two_parts a b h i
  quotient_alike t a b None h i = λ x.
      alike_turned (visited_atoms k a) (t ∷ []) x
      ∙ ap (λ c. tree_same t x || c) (h x ∙ ap (λ us. is_listed x (own us)) (sym (append-nil (visited rational k a))))

  pub atoms-agree : (t : Tree) → AreAlike (visited_atoms k t) (atoms rational k t)
  atoms-agree (Lit s n) = λ x. refl
  atoms-agree (Var d s) = λ x. refl
  atoms-agree (App Add s (Cons a (Cons b Nil))) = two_parts a b (atoms-agree a) (atoms-agree b)
  atoms-agree (App Sub s (Cons a (Cons b Nil))) = two_parts a b (atoms-agree a) (atoms-agree b)
  atoms-agree (App Mul s (Cons a (Cons b Nil))) = two_parts a b (atoms-agree a) (atoms-agree b)
  atoms-agree (App Neg s (Cons a Nil)) = atoms-agree a
  atoms-agree (App Npow s (Cons a (Cons e Nil))) = λ x.
      ap (λ (n : Numbers). is_listed x (power_atoms (App Npow s (Cons a (Cons e Nil))) n.numeral (visited_atoms k a) (visited_atoms k e))) (numbers-agree k e)
      ∙ power_alike (App Npow s (Cons a (Cons e Nil))) a e (numeral e) (atoms-agree a) (atoms-agree e) x
  atoms-agree (App Inv s (Cons b Nil)) = λ x.
      ap (λ (n : Numbers). is_listed x (inverse_atoms (App Inv s (Cons b Nil)) n.fraction (visited_atoms k b))) (numbers-agree k b)
      ∙ inverse_alike (App Inv s (Cons b Nil)) b (closed_value rational k b) (atoms-agree b) x
  atoms-agree (App Div s (Cons a (Cons b Nil))) = λ x.
      ap (λ (n : Numbers). is_listed x (visited_atoms k a ++ inverse_atoms (App Inv s (Cons b Nil)) n.fraction (visited_atoms k b))) (numbers-agree k b)
      ∙ quotient_alike (App Inv s (Cons b Nil)) a b (closed_value rational k b) (atoms-agree a) (atoms-agree b) x
  atoms-agree (App f s ts) = λ x. refl

  all_alike : (ts : List Tree) → AreAlike (flat_map (visited_atoms k) ts) (flat_map (atoms rational k) ts)
  all_alike [] = λ x. refl
  all_alike (t ∷ ts) = alike_both (visited_atoms k t) (flat_map (visited_atoms k) ts) (atoms rational k t) (flat_map (atoms rational k) ts) (atoms-agree t) (all_alike ts)

  as_many_distinct : (us vs : List Tree) → AreAlike us vs → length (distinct us) ≡ length (distinct vs)
  as_many_distinct us vs h = as_many (distinct us) vs (distinct-once us) (λ x. sym (h x) ∙ sym (is_listed-distinct x us))

  pub many-agree : (ts : List Tree) → nat_lt 256 (length (distinct (flat_map (visited_atoms k) ts))) ≡ have_many_atoms rational k ts
  many-agree ts = ap (nat_lt 256) (as_many_distinct (flat_map (visited_atoms k) ts) (flat_map (atoms rational k) ts) (all_alike ts))
