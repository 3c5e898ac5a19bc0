-- Letters, lengths and counts of a tree from those of its parts.
use Rattle.std.proofs.Common.{◌≡◌, ℕ, zero, suc, ◌+◌, ◌*◌, ◌≤◌, ◌<◌, ◌^◌, Bool, true, false, not, ◌||◌, ◌&&◌, nat_le, arith, List, [], ◌∷◌, ◌++◌, map, length, refl, sym, ap, ◌∙◌, subst, Option, Some, None, ℤ, pos}
use Rattle.std.specs.Prelude.{SomeIff, unsigned_abs}
use Rattle.std.proofs.lemmas.Bool.Decides.{nat_tests}
use Rattle.alg_terms.specs.declared.sorts.Sort.{Sort}
use Rattle.alg_terms.specs.declared.symbols.Sym.TheVariants.{Mul, Inv, Div, Npow, Zpow}
use Rattle.alg_terms.specs.Tree.{Tree, Lit, App, Nil, Cons, product_tree}
use Rattle.alg_law.specs.Declarations.{Declaration}
use Rattle.alg_build.specs.Book.{Book, Grows}
use Rattle.alg_rows.specs.Operations.{integer_power_tree, inverse_tree, power_tree, quotient_tree}
use Rattle.alg_group_words.specs.Letters.{times_or, weight}
use Rattle.alg_group_words.specs.Syllables.{AreRuns, runs_or, syllables, total_size}
use Rattle.alg_group_words.specs.Limits.{is_heavy, where_number, out_of_range, is_long, long_power, has_long, count_or, all_syllables, atoms_or, atoms}
use Rattle.alg_group_words.proofs.Trees.{syllables-AreRuns}
use Rattle.alg_group_words.proofs.Weights.{syllables_within}
use Rattle.alg_group_stack.specs.declared.syllable.Home.{Home}
use Rattle.alg_group_spelling.specs.declared.spelled.Spelled.{Spelled}
use Rattle.alg_group_stack.specs.declared.syllable.Syllable.{Syllable}
use Rattle.alg_group_stack.specs.Words.{HaveRoom, pairs_of}
use Rattle.alg_group_spelling.specs.Spelling.{Spells}
use Rattle.alg_group_found.specs.declared.found.Reach.{Reach}
use Rattle.alg_group_found.specs.declared.found.Reach.TheVariants as reach
use Rattle.alg_group_found.specs.declared.found.Within.{Within}
use Rattle.alg_group_found.specs.Exponents.{exponent, past}
use Rattle.alg_group_found.specs.Found.{is_full, is_large, is_out, HasLetters, IsLarge, IsWithin, IsReached, LettersOrOut, IsCounted, IsAtom, IsUnraised, AreJoined, IsInverted, IsRaised}

or-none : (b : Bool) → (b || (false || false)) ≡ b
or-none true = refl
or-none false = refl

pub or-left : (a b : Bool) → (a || b) ≡ false → a ≡ false
or-left true b e = cc
or-left false b e = refl

pub or-right : (a b : Bool) → (a || b) ≡ false → b ≡ false
or-right true b e = cc
or-right false b e = e

or-true : (a b : Bool) → b ≡ true → (a || b) ≡ true
or-true true b e = refl
or-true false b e = e

first-true : (a b : Bool) → a ≡ true → (a || b) ≡ true
first-true a b e = rw e refl

not-false : (b : Bool) → not b ≡ false → b ≡ true
not-false true e = refl
not-false false e = cc

pub not-heavy : (n : ℕ) → is_heavy n ≡ false → n ≤ 2 ^ 126
not-heavy n e = grind (arith, nat_tests, not-false (nat_le n (2 ^ 126)) e)

pub not-full : (n : ℕ) → is_full n ≡ false → n ≤ 2 ^ 18
not-full n e = grind (arith, nat_tests, not-false (nat_le n (2 ^ 18)) e)

-- ---- a tree in range has at most 2^126 letters
module _ (value : Tree → Option ℤ) (past : Tree → Bool) where
  within-power : (p : Bool) (n : ℕ) (o : Bool) → (p || (is_heavy n || o)) ≡ false → n ≤ 2 ^ 126
  within-power p n o e = not-heavy n (or-left (is_heavy n) o (or-right p (is_heavy n || o) e))

  pub weight_within : (t : Tree) → out_of_range value past t ≡ false → weight value t ≤ 2 ^ 126
  weight_within (Lit s (suc zero)) e = omega arith
  weight_within (App Mul s (Cons a (Cons b Nil))) e = not-heavy (weight value a + weight value b) (or-left (is_heavy (weight value a + weight value b)) (out_of_range value past a || out_of_range value past b) e)
  weight_within (App Inv s (Cons a Nil)) e = weight_within a e
  weight_within (App Div s (Cons a (Cons b Nil))) e = not-heavy (weight value a + weight value b) (or-left (is_heavy (weight value a + weight value b)) (out_of_range value past a || out_of_range value past b) e)
  weight_within (App Npow s (Cons a (Cons k Nil))) e = within-power (past k) (weight value (App Npow s (Cons a (Cons k Nil)))) (where_number (value k) (out_of_range value past a)) e
  weight_within (App Zpow s (Cons a (Cons k Nil))) e = within-power (past k) (weight value (App Zpow s (Cons a (Cons k Nil)))) (where_number (value k) (out_of_range value past a)) e
  weight_within t e = omega arith

-- ---- room
pub pairs-length : (b : Book) (xs : List Syllable) → length (pairs_of b xs) ≡ length xs
pairs-length b [] = refl
pairs-length b (x ∷ xs) = ap suc (pairs-length b xs)

-- ---- the measures of trees over parts
module _ (ds : List Declaration) (s : Sort) where
  pub product-joined : (t u : Tree) → AreJoined ds (product_tree s t u) t u
  product-joined t u = record { out = refl; weight = refl; long = refl; count = refl; atoms = refl }

  pub quotient-joined : (t u : Tree) → AreJoined ds (quotient_tree s t u) t u
  quotient-joined t u = record { out = refl; weight = refl; long = refl; count = refl; atoms = refl }

  pub inverse-inverted : (t : Tree) → IsInverted ds (inverse_tree s t) t
  inverse-inverted t = record { out = refl; weight = refl; long = refl; count = refl; atoms = refl }

  module _ (t k : Tree) (z : ℤ) (e : exponent ds k ≡ Some z) (f : past ds k ≡ false) where
    pub power-raised : IsRaised ds (power_tree s t k) t z
    power-raised = record {
      out = rw (e, f) refl;
      weight = ap (λ (o : Option ℤ). times_or o (weight (exponent ds) t)) e;
      long = ap (λ (o : Option ℤ). long_power o (length (syllables (exponent ds) t)) || where_number o (has_long (exponent ds) t)) e;
      count = ap (λ (o : Option ℤ). length (syllables (exponent ds) (power_tree s t k)) + count_or o (all_syllables (exponent ds) t)) e;
      atoms = ap (atoms_or (power_tree s t k) (atoms (exponent ds) t)) e;
      syllables = ap (runs_or (power_tree s t k) (syllables (exponent ds) t)) e;
    }

    pub integer_power-raised : IsRaised ds (integer_power_tree s t k) t z
    integer_power-raised = record {
      out = rw (e, f) refl;
      weight = ap (λ (o : Option ℤ). times_or o (weight (exponent ds) t)) e;
      long = ap (λ (o : Option ℤ). long_power o (length (syllables (exponent ds) t)) || where_number o (has_long (exponent ds) t)) e;
      count = ap (λ (o : Option ℤ). length (syllables (exponent ds) (integer_power_tree s t k)) + count_or o (all_syllables (exponent ds) t)) e;
      atoms = ap (atoms_or (integer_power_tree s t k) (atoms (exponent ds) t)) e;
      syllables = ap (runs_or (integer_power_tree s t k) (syllables (exponent ds) t)) e;
    }

  -- without a number it is an atom
  pub unraised : (t k : Tree) → exponent ds k ≡ None → IsUnraised ds (power_tree s t k) (past ds k)
  unraised t k e = record {
    out = rw e (or-none (past ds k));
    atoms = ap (atoms_or (power_tree s t k) (atoms (exponent ds) t)) e;
    atom = λ f. record { fits = rw (e, f) refl; weight = rw e refl; short = rw e refl; count = rw e refl; atoms = rw e refl; syllables = rw e refl };
  }

  pub integer-unraised : (t k : Tree) → exponent ds k ≡ None → IsUnraised ds (integer_power_tree s t k) (past ds k)
  integer-unraised t k e = record {
    out = rw e (or-none (past ds k));
    atoms = ap (atoms_or (integer_power_tree s t k) (atoms (exponent ds) t)) e;
    atom = λ f. record { fits = rw (e, f) refl; weight = rw e refl; short = rw e refl; count = rw e refl; atoms = rw e refl; syllables = rw e refl };
  }

full-more : (m n : ℕ) → m ≤ n → is_full m ≡ true → is_full n ≡ true
full-more m n l e = grind (arith, nat_tests)

large-cases : (p q r : Bool) (m n : ℕ) → m ≤ n → (q || is_full m) ≡ true → ((p || (q || r)) || is_full n) ≡ true
large-cases true q r m n l e = refl
large-cases false true r m n l e = refl
large-cases false false r m n l e = or-true r (is_full n) (full-more m n l e)

larger-cases : (p q r : Bool) (m n : ℕ) → m ≤ n → (r || is_full m) ≡ true → ((p || (q || r)) || is_full n) ≡ true
larger-cases true q r m n l e = refl
larger-cases false true r m n l e = refl
larger-cases false false true m n l e = refl
larger-cases false false false m n l e = full-more m n l e

all-short : (p q r : Bool) → p ≡ false → q ≡ false → r ≡ false → (p || (q || r)) ≡ false
all-short p q r e f g = rw (e, f, g) refl

module _ (ds : List Declaration) where
  short-within : (t : Tree) → is_large (exponent ds) t ≡ false → has_long (exponent ds) t ≡ false
  short-within t e = or-left (has_long (exponent ds) t) (is_full (all_syllables (exponent ds) t)) e

  pub count-within : (t : Tree) → is_large (exponent ds) t ≡ false → all_syllables (exponent ds) t ≤ 2 ^ 18
  count-within t e = not-full (all_syllables (exponent ds) t) (or-right (has_long (exponent ds) t) (is_full (all_syllables (exponent ds) t)) e)

  size-within : (t : Tree) (w : ℕ) → HasLetters ds t w → total_size (syllables (exponent ds) t) ≤ w
  size-within t w h = omega (arith, syllables_within (exponent ds) t, h.weight)

  module _ (p t u : Tree) (j : AreJoined ds p t u) where
    pub joined-letters : (w : ℕ) → LettersOrOut (Some w) (is_heavy (weight (exponent ds) t + weight (exponent ds) u) || (is_out ds t || is_out ds u)) (weight (exponent ds) t + weight (exponent ds) u) → HasLetters ds p w
    joined-letters w h = record { fits = j.out ∙ h.0; weight = h.1 ∙ sym j.weight }

    pub joined-out : (is_heavy (weight (exponent ds) t + weight (exponent ds) u) || (is_out ds t || is_out ds u)) ≡ true → is_out ds p ≡ true
    joined-out h = j.out ∙ h

    left-out : (m o : Bool) → is_out ds t ≡ true → (m || (is_out ds t || o)) ≡ true
    left-out true o e = refl
    left-out false o e = first-true (is_out ds t) o e

    right-out : (m o : Bool) → is_out ds u ≡ true → (m || (o || is_out ds u)) ≡ true
    right-out true o e = refl
    right-out false o e = or-true o (is_out ds u) e

    pub joined-left_out : is_out ds t ≡ true → is_out ds p ≡ true
    joined-left_out e = j.out ∙ left-out (is_heavy (weight (exponent ds) t + weight (exponent ds) u)) (is_out ds u) e

    pub joined-right_out : is_out ds u ≡ true → is_out ds p ≡ true
    joined-right_out e = j.out ∙ right-out (is_heavy (weight (exponent ds) t + weight (exponent ds) u)) (is_out ds t) e

    large_is : is_large (exponent ds) p ≡ ((is_long (length (syllables (exponent ds) t) + length (syllables (exponent ds) u)) || (has_long (exponent ds) t || has_long (exponent ds) u)) || is_full (all_syllables (exponent ds) p))
    large_is = ap (λ (b : Bool). b || is_full (all_syllables (exponent ds) p)) j.long

    module _ (w : ℕ) (h : HasLetters ds p w) where
      pub joined-left_large : is_large (exponent ds) t ≡ true → IsLarge ds p w
      joined-left_large e = record {
        letters = h;
        large = large_is ∙ large-cases (is_long (length (syllables (exponent ds) t) + length (syllables (exponent ds) u))) (has_long (exponent ds) t) (has_long (exponent ds) u) (all_syllables (exponent ds) t) (all_syllables (exponent ds) p) (omega (arith, j.count)) e;
      }

      pub joined-right_large : is_large (exponent ds) u ≡ true → IsLarge ds p w
      joined-right_large e = record {
        letters = h;
        large = large_is ∙ larger-cases (is_long (length (syllables (exponent ds) t) + length (syllables (exponent ds) u))) (has_long (exponent ds) t) (has_long (exponent ds) u) (all_syllables (exponent ds) u) (all_syllables (exponent ds) p) (omega (arith, j.count)) e;
      }

      module _ (a : Book) (home : Home) (x y : Within) (m : IsWithin ds a home t x) (n : IsWithin ds a home u y) where
        pub joined-room : HaveRoom a x.spelled.word.items y.spelled.word.items
        joined-room = record {
          small = omega (arith, weight_within (exponent ds) (past ds) p h.fits, j.weight, ap total_size m.pairs, ap total_size n.pairs, syllables_within (exponent ds) t, syllables_within (exponent ds) u);
        }

        -- the lengths of both words
        pub lengths : length x.spelled.word.items + length y.spelled.word.items ≡ length (syllables (exponent ds) t) + length (syllables (exponent ds) u)
        lengths = omega (arith, pairs-length a x.spelled.word.items, pairs-length a y.spelled.word.items, ap length m.pairs, ap length n.pairs)

        pub joined-long : is_long (length x.spelled.word.items + length y.spelled.word.items) ≡ true → IsLarge ds p w
        joined-long l = record {
          letters = h;
          large = large_is ∙ first-true (is_long (length (syllables (exponent ds) t) + length (syllables (exponent ds) u)) || (has_long (exponent ds) t || has_long (exponent ds) u)) (is_full (all_syllables (exponent ds) p))
              (first-true (is_long (length (syllables (exponent ds) t) + length (syllables (exponent ds) u))) (has_long (exponent ds) t || has_long (exponent ds) u) (ap is_long (sym lengths) ∙ l));
        }

        pub joined-counted : (b : Book) (q : Spelled) → is_long (length x.spelled.word.items + length y.spelled.word.items) ≡ false → Spells b home.sort p q → pairs_of b q.word.items ≡ syllables (exponent ds) p → IsCounted ds b home p w (x.count + y.count) q
        joined-counted b q l k e = record {
          letters = h;
          short = j.long ∙ all-short (is_long (length (syllables (exponent ds) t) + length (syllables (exponent ds) u))) (has_long (exponent ds) t) (has_long (exponent ds) u) (ap is_long (sym lengths) ∙ l) (short-within t m.large) (short-within u n.large);
          count = omega (arith, j.count, m.count, n.count);
          spells = k;
          pairs = e;
        }

  module _ (p t : Tree) (i : IsInverted ds p t) where
    pub inverted-letters : (w : ℕ) → HasLetters ds t w → HasLetters ds p w
    inverted-letters w h = record { fits = i.out ∙ h.fits; weight = h.weight ∙ sym i.weight }

    inverted-cases : (q : Bool) (m n : ℕ) → m ≤ n → (q || is_full m) ≡ true → (q || is_full n) ≡ true
    inverted-cases true m n l e = refl
    inverted-cases false m n l e = full-more m n l e

    pub inverted-large : (w : ℕ) → IsLarge ds t w → IsLarge ds p w
    inverted-large w h = record {
      letters = inverted-letters w h.letters;
      large = ap (λ (b : Bool). b || is_full (all_syllables (exponent ds) p)) i.long ∙ inverted-cases (has_long (exponent ds) t) (all_syllables (exponent ds) t) (all_syllables (exponent ds) p) (omega (arith, i.count)) h.large;
    }

    module _ (a : Book) (home : Home) (x : Within) (m : IsWithin ds a home t x) where
      pub inverted-room : total_size (pairs_of a x.spelled.word.items) ≤ 2 ^ 126
      inverted-room = omega (arith, weight_within (exponent ds) (past ds) t m.letters.fits, ap total_size m.pairs, syllables_within (exponent ds) t)

      pub inverted-counted : (b : Book) (q : Spelled) → Spells b home.sort p q → pairs_of b q.word.items ≡ syllables (exponent ds) p → IsCounted ds b home p x.weight x.count q
      inverted-counted b q k e = record {
        letters = inverted-letters x.weight m.letters;
        short = i.long ∙ short-within t m.large;
        count = omega (arith, i.count, m.count);
        spells = k;
        pairs = e;
      }

  module _ (p t : Tree) (z : ℤ) (r : IsRaised ds p t z) where
    pub raised-letters : (w : ℕ) → LettersOrOut (Some w) (is_heavy (unsigned_abs z * weight (exponent ds) t) || is_out ds t) (unsigned_abs z * weight (exponent ds) t) → HasLetters ds p w
    raised-letters w h = record { fits = r.out ∙ h.0; weight = h.1 ∙ sym r.weight }

    pub raised-out : (is_heavy (unsigned_abs z * weight (exponent ds) t) || is_out ds t) ≡ true → is_out ds p ≡ true
    raised-out h = r.out ∙ h

    pub raised-base_out : is_out ds t ≡ true → is_out ds p ≡ true
    raised-base_out e = r.out ∙ or-true (is_heavy (unsigned_abs z * weight (exponent ds) t)) (is_out ds t) e

    raised-cases : (q s : Bool) (m n : ℕ) → m ≤ n → (s || is_full m) ≡ true → ((q || s) || is_full n) ≡ true
    raised-cases true s m n l e = refl
    raised-cases false true m n l e = refl
    raised-cases false false m n l e = full-more m n l e

    raised_large_is : is_large (exponent ds) p ≡ ((long_power (Some z) (length (syllables (exponent ds) t)) || has_long (exponent ds) t) || is_full (all_syllables (exponent ds) p))
    raised_large_is = ap (λ (b : Bool). b || is_full (all_syllables (exponent ds) p)) r.long

    both-short : (q s : Bool) → q ≡ false → s ≡ false → (q || s) ≡ false
    both-short q s e f = rw (e, f) refl

    module _ (w : ℕ) (h : HasLetters ds p w) where
      pub raised-large : is_large (exponent ds) t ≡ true → IsLarge ds p w
      raised-large e = record {
        letters = h;
        large = raised_large_is ∙ raised-cases (long_power (Some z) (length (syllables (exponent ds) t))) (has_long (exponent ds) t) (all_syllables (exponent ds) t) (all_syllables (exponent ds) p) (omega (arith, r.count)) e;
      }

      module _ (a : Book) (home : Home) (x : Within) (m : IsWithin ds a home t x) where
        word-length : length x.spelled.word.items ≡ length (syllables (exponent ds) t)
        word-length = sym (pairs-length a x.spelled.word.items) ∙ ap length m.pairs

        pub raised-long : long_power (Some z) (length x.spelled.word.items) ≡ true → IsLarge ds p w
        raised-long e = record {
          letters = h;
          large = raised_large_is ∙ first-true (long_power (Some z) (length (syllables (exponent ds) t)) || has_long (exponent ds) t) (is_full (all_syllables (exponent ds) p))
              (first-true (long_power (Some z) (length (syllables (exponent ds) t))) (has_long (exponent ds) t) (ap (long_power (Some z)) (sym word-length) ∙ e));
        }

        pub raised-room : unsigned_abs z * total_size (pairs_of a x.spelled.word.items) ≤ 2 ^ 126
        raised-room = omega (arith, weight_within (exponent ds) (past ds) p h.fits, r.weight, ap (λ (n : ℕ). unsigned_abs z * n) (ap total_size m.pairs), times-more (unsigned_abs z) (total_size (syllables (exponent ds) t)) (weight (exponent ds) t) (syllables_within (exponent ds) t))
          where
            times-more : (k m n : ℕ) → m ≤ n → k * m ≤ k * n
            times-more zero m n l = omega arith
            times-more (suc k) m n l = omega (arith, l, times-more k m n l)

        pub raised-runs : AreRuns (pairs_of a x.spelled.word.items)
        raised-runs = subst (λ (ss : List (Tree × ℤ)). AreRuns ss) (sym m.pairs) (syllables-AreRuns (exponent ds) t)

        pub raised-counted : (b : Book) (q : Spelled) → long_power (Some z) (length x.spelled.word.items) ≡ false → Spells b home.sort p q → pairs_of b q.word.items ≡ syllables (exponent ds) p → IsCounted ds b home p w x.count q
        raised-counted b q l k e = record {
          letters = h;
          short = r.long ∙ both-short (long_power (Some z) (length (syllables (exponent ds) t))) (has_long (exponent ds) t) (ap (long_power (Some z)) (sym word-length) ∙ l) (short-within t m.large);
          count = omega (arith, r.count, m.count);
          spells = k;
          pairs = e;
        }

-- ---- what is counted
module _ (ds : List Declaration) (b : Book) (h : Home) (t : Tree) (w parts : ℕ) (q : Spelled) (c : IsCounted ds b h t w parts q) where
  counted-length : parts + length q.word.items ≡ all_syllables (exponent ds) t
  counted-length = omega (arith, c.count, pairs-length b q.word.items, ap length c.pairs)

  pub counted-large : is_full (parts + length q.word.items) ≡ true → IsLarge ds t w
  counted-large l = record {
    letters = c.letters;
    large = or-true (has_long (exponent ds) t) (is_full (all_syllables (exponent ds) t)) (ap is_full (sym counted-length) ∙ l);
  }

  pub counted-within : is_full (parts + length q.word.items) ≡ false → IsWithin ds b h t (record { weight = w; count = parts + length q.word.items; spelled = q })
  counted-within l = record {
    letters = c.letters;
    large = ap (λ (o : Bool). o || is_full (all_syllables (exponent ds) t)) c.short ∙ ap is_full (sym counted-length) ∙ l;
    count = counted-length;
    spells = c.spells;
    pairs = c.pairs;
  }

-- ---- letters of two trees, and of a power
heavy-over : (n : ℕ) → (n ≤ 2 ^ 126 → ⊥) → is_heavy n ≡ true
heavy-over n l = grind (arith, nat_tests, l)

heavy-within : (n : ℕ) → n ≤ 2 ^ 126 → is_heavy n ≡ false
heavy-within n l = grind (arith, nat_tests)

pub both-letters : (o : Option ℕ) (m n wt wu : ℕ) (ot ou : Bool) → LettersOrOut (Some m) ot wt → LettersOrOut (Some n) ou wu → SomeIff o (m + n ≤ 2 ^ 126) (m + n) → LettersOrOut o (is_heavy (wt + wu) || (ot || ou)) (wt + wu)
both-letters None m n wt wu ot ou h k s =
    first-true (is_heavy (wt + wu)) (ot || ou) (heavy-over (wt + wu) (λ l. s (omega (arith, l, h.1, k.1))))
both-letters (Some w) m n wt wu ot ou h k s =
    (all-short (is_heavy (wt + wu)) ot ou (heavy-within (wt + wu) (omega (arith, s.0, h.1, k.1))) h.0 k.0, omega (arith, s.1, h.1, k.1))

pub left-none : (wt wu : ℕ) (ot ou : Bool) → LettersOrOut None ot wt → LettersOrOut None (is_heavy (wt + wu) || (ot || ou)) (wt + wu)
left-none wt wu ot ou h = or-true (is_heavy (wt + wu)) (ot || ou) (first-true ot ou h)

pub right-none : (wt wu : ℕ) (ot ou : Bool) → LettersOrOut None ou wu → LettersOrOut None (is_heavy (wt + wu) || (ot || ou)) (wt + wu)
right-none wt wu ot ou h = or-true (is_heavy (wt + wu)) (ot || ou) (or-true ot ou h)

pub power-letters : (o : Option ℕ) (k n wt : ℕ) (ot : Bool) → LettersOrOut (Some n) ot wt → SomeIff o (k * n ≤ 2 ^ 126) (k * n) → LettersOrOut o (is_heavy (k * wt) || ot) (k * wt)
power-letters None k n wt ot h s =
    first-true (is_heavy (k * wt)) ot (heavy-over (k * wt) (λ l. s (subst (λ (m : ℕ). k * m ≤ 2 ^ 126) (sym h.1) l)))
power-letters (Some w) k n wt ot h s =
    (rw (heavy-within (k * wt) (subst (λ (m : ℕ). k * m ≤ 2 ^ 126) h.1 s.0), h.0) refl, s.1 ∙ ap (λ (m : ℕ). k * m) h.1)

pub power-none : (k wt : ℕ) (ot : Bool) → LettersOrOut None ot wt → LettersOrOut None (is_heavy (k * wt) || ot) (k * wt)
power-none k wt ot h = or-true (is_heavy (k * wt)) ot h
