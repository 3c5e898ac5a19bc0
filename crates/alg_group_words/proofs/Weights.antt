-- A tree's weight is the number of its letters, and the exponents of its syllables sum to at most it.
use Rattle.std.proofs.Common.{◌≡◌, ℕ, zero, suc, ◌+◌, ◌*◌, ◌≤◌, Bool, true, false, cond, List, [], ◌∷◌, length, length-append, refl, ap, ap₂, ◌∙◌, arith, Option, Some, None, ℤ, pos, negsuc, ◌+ℤ◌}
use Rattle.std.specs.Prelude.{unsigned_abs}
use Rattle.std.specs.Ordering.{int_eq}
use Rattle.std.proofs.lemmas.Int.{ints}
use Rattle.alg_terms.specs.declared.symbols.Sym.TheVariants.{Mul, Inv, Div, Npow, Zpow}
use Rattle.alg_terms.specs.Tree.{Tree, Lit, App, Nil, Cons}
use Rattle.alg_terms.specs.Order.{tree_same}
use Rattle.alg_group_words.specs.Word.{Letter, inverse, inverted, repeated, raised}
use Rattle.alg_group_words.specs.Letters.{raised_or, letters, times_or, weight}
use Rattle.alg_group_words.specs.Syllables.{kept, put_front, syllable_of, runs, syllables, total_size}
use Rattle.alg_group_words.proofs.Trees.{syllables_are}

length-inverted : (w : List Letter) → length (inverted w) ≡ length w
length-inverted [] = refl
length-inverted (l ∷ w) = omega (arith, length-append (inverted w) (inverse l ∷ []), length-inverted w)

length-repeated : (w : List Letter) (n : ℕ) → length (repeated w n) ≡ n * length w
length-repeated w zero = omega arith
length-repeated w (suc n) = omega (arith, length-append (repeated w n) w, length-repeated w n)

length-raised : (w : List Letter) (k : ℤ) → length (raised w k) ≡ unsigned_abs k * length w
length-raised w (pos n) = length-repeated w n
length-raised w (negsuc n) = length-repeated (inverted w) (suc n) ∙ ap (λ m. suc n * m) (length-inverted w)

abs_plus : (a b : ℤ) → unsigned_abs (a +ℤ b) ≤ unsigned_abs a + unsigned_abs b
abs_plus a b = omega (arith, ints)

kept_size : (s : Tree × ℤ) (ss : List (Tree × ℤ)) (b : Bool) → total_size (cond b ss (s ∷ ss)) ≤ unsigned_abs s.1 + total_size ss
kept_size s ss true = omega arith
kept_size s ss false = omega arith

front_cases : (s t : Tree × ℤ) (ts : List (Tree × ℤ)) (b : Bool) → total_size (cond b (kept (t.0, s.1 +ℤ t.1) ts) (kept s (t ∷ ts))) ≤ unsigned_abs s.1 + total_size (t ∷ ts)
front_cases s t ts true = omega (arith, kept_size (t.0, s.1 +ℤ t.1) ts (int_eq (s.1 +ℤ t.1) (pos 0)), abs_plus s.1 t.1)
front_cases s t ts false = kept_size s (t ∷ ts) (int_eq s.1 (pos 0))

front_size : (s : Tree × ℤ) (ss : List (Tree × ℤ)) → total_size (put_front s ss) ≤ unsigned_abs s.1 + total_size ss
front_size s [] = kept_size s [] (int_eq s.1 (pos 0))
front_size s (t ∷ ts) = front_cases s t ts (tree_same s.0 t.0)

one_letter : (b : Bool) → unsigned_abs (cond b (negsuc 0) (pos 1)) ≡ 1
one_letter true = refl
one_letter false = refl

runs_size : (w : List Letter) → total_size (runs w) ≤ length w
unfolding runs
runs_size [] = omega arith
runs_size (l ∷ w) = omega (arith, front_size (syllable_of l) (runs w), one_letter l.1, runs_size w)

module _ (value : Tree → Option ℤ) where
  power_length : (a : Tree) (w : List Letter) (n : ℕ) (o : Option ℤ) → length w ≡ n → length (raised_or a w o) ≡ times_or o n
  power_length a w n (Some k) h = length-raised w k ∙ ap (λ m. unsigned_abs k * m) h
  power_length a w n None h = refl

  -- before anything is cancelled
  pub length-letters : (t : Tree) → length (letters value t) ≡ weight value t
  length-letters (Lit s (suc zero)) = refl
  length-letters (App Mul s (Cons a (Cons b Nil))) = length-append (letters value a) (letters value b) ∙ ap₂ (λ m n. m + n) (length-letters a) (length-letters b)
  length-letters (App Inv s (Cons a Nil)) = length-inverted (letters value a) ∙ length-letters a
  length-letters (App Div s (Cons a (Cons b Nil))) = length-append (letters value a) (inverted (letters value b)) ∙ ap₂ (λ m n. m + n) (length-letters a) (length-inverted (letters value b) ∙ length-letters b)
  length-letters (App Npow s (Cons a (Cons k Nil))) = power_length (App Npow s (Cons a (Cons k Nil))) (letters value a) (weight value a) (value k) (length-letters a)
  length-letters (App Zpow s (Cons a (Cons k Nil))) = power_length (App Zpow s (Cons a (Cons k Nil))) (letters value a) (weight value a) (value k) (length-letters a)
  length-letters t = refl

  pub syllables_within : (t : Tree) → total_size (syllables value t) ≤ weight value t
  syllables_within t = omega (arith, ap total_size (syllables_are value t), runs_size (letters value t), length-letters t)
