-- Powers of words by their exponents, and what they ask for.
use Rattle.std.proofs.Common.{◌≡◌, ℕ, zero, suc, ◌+◌, ◌*◌, ◌≤◌, ◌<◌, ◌^◌, arith, ℤ, pos, negsuc, ◌+ℤ◌, ◌*ℤ◌, false, true, List, [], ◌∷◌, length, take, drop, refl, sym, ap, ◌∙◌, subst, to_z, of_z}
use Rattle.std.specs.Int.{w128}
use Rattle.std.specs.Prelude.{unsigned_abs, ◌<ℤ◌, ◌≤ℤ◌}
use Rattle.std.specs.Ordering.{int_eq}
use Rattle.std.proofs.lemmas.Int.{ints, unsigned_abs-mul}
use Rattle.alg_terms.specs.declared.sorts.Sort.{Sort}
use Rattle.alg_terms.specs.declared.sorts.Sort.TheVariants.{Int}
use Rattle.alg_terms.specs.Tree.{Tree, Lit, product_tree}
use Rattle.alg_expr.specs.declared.ids.ExprId.{ExprId}
use Rattle.alg_expr.specs.Ids.{tree_of}
use Rattle.alg_num.specs.Range.{InRange}
use Rattle.alg_build.specs.Book.{Book, Grows}
use Rattle.alg_build.specs.Rewriting.{Stands, Turns}
use Rattle.alg_build.specs.declared.rewriting.Rewriting.{Rewriting}
use Rattle.alg_build.proofs.Rewritings.{grows-stands, grows-turns, target}
use Rattle.alg_rows.specs.Operations.{inverse_tree, negation_tree}
use Rattle.alg_numerals.specs.WholeTree.{whole_tree}
use Rattle.alg_group_words.specs.Syllables.{AreRuns, kept, joined, joined_inverse, raised_runs, total_size}
use Rattle.alg_group_words.proofs.Runs.{above_zero, not_zero}
use Rattle.alg_group_words.proofs.Products.{joined-nil}
use Rattle.alg_group_words.proofs.Powers.{raised_is, raised-suc, runs-negsuc}
use Rattle.alg_group_words.proofs.Sizes.{size-raised}
use Rattle.alg_group_stack.specs.declared.syllable.Syllable.{Syllable}
use Rattle.alg_group_spelling.specs.declared.spelled.Spelled.{Spelled}
use Rattle.alg_group_stack.specs.Words.{pair_of, pairs_of, syllable_tree, word_tree, IsPower, IsSyllable, IsWord, HasRoom, HaveRoom}
use Rattle.alg_group_spelling.specs.Spelling.{Spells}
use Rattle.alg_group_stack.proofs.BitLemmas.{same-bits}
use Rattle.alg_group_stack.proofs.WordLemmas.{Placed, grows-pairs, grows-word, kept-some}
use Rattle.alg_group_stack.proofs.Homes.{own-turns}
use Rattle.alg_group_stack.proofs.StepLemmas.{after, turns-cast, word-later}

pub empty-word : (b : Book) (s : Sort) → IsWord b s []
empty-word b s = record { holds = tt }

pub empty-room : (b : Book) (xs : List Syllable) → total_size (pairs_of b xs) ≤ 2 ^ 126 → HaveRoom b [] xs
empty-room b xs h = record { small = omega (arith, h) }

-- ---- by the exponent
pub raised-zero : (ss : List (Tree × ℤ)) → raised_runs ss (pos 0) ≡ []
raised-zero ss = raised_is ss (pos 0)

pub raised-first : (ss : List (Tree × ℤ)) → AreRuns ss → raised_runs ss (pos 1) ≡ ss
raised-first ss h = raised-suc ss 0 ∙ ap (λ (xs : List (Tree × ℤ)). joined xs ss) (raised-zero ss) ∙ joined-nil ss h

pub raised-none : (z : ℤ) → raised_runs [] z ≡ []
unfolding raised_runs
raised-none z = refl

no_zero : (m n : ℕ) → 0 < m → 0 < n → 0 < m * n
no_zero zero n l k = absurd (omega (arith, l))
no_zero (suc m) n l k = omega (arith, k)

pub above-zero : (z : ℤ) → int_eq z (pos 0) ≡ false → 0 < unsigned_abs z
above-zero (pos zero) e = cc
above-zero (pos (suc n)) e = omega arith
above-zero (negsuc n) e = omega arith

pub times-some : (y z : ℤ) → int_eq y (pos 0) ≡ false → int_eq z (pos 0) ≡ false → int_eq (y *ℤ z) (pos 0) ≡ false
times-some y z e f = not_zero (y *ℤ z) (λ q. omega (arith, no_zero (unsigned_abs y) (unsigned_abs z) (above-zero y e) (above-zero z f), unsigned_abs-mul y z, ap unsigned_abs q))

pub raised-single : (s : Tree × ℤ) (z : ℤ) → int_eq (s.1 *ℤ z) (pos 0) ≡ false → raised_runs (s ∷ []) z ≡ (s.0, s.1 *ℤ z) ∷ []
unfolding raised_runs
raised-single s z e = kept-some (s.0, s.1 *ℤ z) e

pub raised-below : (ss : List (Tree × ℤ)) (z : ℤ) → z <ℤ pos 0 → raised_runs ss z ≡ joined_inverse [] (raised_runs ss (pos (unsigned_abs z)))
raised-below ss (pos n) l = absurd (omega (arith, ints, l))
raised-below ss (negsuc n) l = runs-negsuc ss n

pub raised-above : (ss : List (Tree × ℤ)) (z : ℤ) → pos 0 ≤ℤ z → raised_runs ss (pos (unsigned_abs z)) ≡ raised_runs ss z
raised-above ss (pos n) l = refl
raised-above ss (negsuc n) l = absurd (omega (arith, ints, l))

pub whole-below : (z : ℤ) → z <ℤ pos 0 → whole_tree Int z ≡ negation_tree Int (Lit Int (unsigned_abs z))
unfolding whole_tree
whole-below (pos n) l = absurd (omega (arith, ints, l))
whole-below (negsuc n) l = refl

pub whole-above : (z : ℤ) → pos 0 ≤ℤ z → whole_tree Int z ≡ Lit Int (unsigned_abs z)
unfolding whole_tree
whole-above (pos n) l = refl
whole-above (negsuc n) l = absurd (omega (arith, ints, l))

pub whole-zero : (z : ℤ) → z ≡ pos 0 → whole_tree Int z ≡ Lit Int 0
unfolding whole_tree
whole-zero z e = ap (whole_tree Int) e

pub whole-natural : (z : ℤ) → z ≡ pos (unsigned_abs z) → whole_tree Int z ≡ Lit Int (unsigned_abs z)
unfolding whole_tree
whole-natural z e = ap (whole_tree Int) e

-- ---- room
times-more : (k m n : ℕ) → m ≤ n → k * m ≤ k * n
times-more zero m n l = omega arith
times-more (suc k) m n l = omega (arith, l, times-more k m n l)

-- one factor more is no more than all of them
pub room-once : (a b : Book) (xs ys : List Syllable) (m n : ℕ) → pairs_of b ys ≡ raised_runs (pairs_of a xs) (pos m) → pairs_of b xs ≡ pairs_of a xs → m < n → n * total_size (pairs_of a xs) ≤ 2 ^ 126 → HaveRoom b ys xs
room-once a b xs ys m n e f l h =
    record {
      small = omega (arith, ap total_size e, ap total_size f, size-raised (pairs_of a xs) (pos m), fewer (total_size (pairs_of a xs)) m n l, h);
    }
  where
    fewer : (t m n : ℕ) → m < n → m * t + t ≤ n * t
    fewer t zero zero l = absurd (omega (arith, l))
    fewer t zero (suc n) l = omega arith
    fewer t (suc m) zero l = absurd (omega (arith, l))
    fewer t (suc m) (suc n) l = omega (arith, fewer t m n (omega (arith, l)))

pub size-up : (a b : Book) (xs ys : List Syllable) (n : ℕ) → pairs_of b ys ≡ raised_runs (pairs_of a xs) (pos n) → n * total_size (pairs_of a xs) ≤ 2 ^ 126 → total_size (pairs_of b ys) ≤ 2 ^ 126
size-up a b xs ys n e h = omega (arith, ap total_size e, size-raised (pairs_of a xs) (pos n), h)

pub small-single : (b : Book) (x : Syllable) (z : ℤ) → unsigned_abs z * total_size (pairs_of b (x ∷ [])) ≤ 2 ^ 126 → InRange (x.exponent *ℤ z)
small-single b x z h = omega (arith, h, unsigned_abs-mul x.exponent z, turned (unsigned_abs x.exponent) (unsigned_abs z))
  where
    turned : (m n : ℕ) → m * n ≡ n * (m + 0)
    turned m n = omega arith

-- ---- a word of one syllable
pub single-word : (b : Book) (s : Sort) (x : Syllable) → IsPower b s x → Stands b s x.whole (product_tree s (Lit s 1) (syllable_tree s (pair_of b x))) → IsWord b s (x ∷ [])
single-word b s x p w = record { holds = (record { power = p; whole = w }, tt) }

pub first-of : (b : Book) (s : Sort) (x : Syllable) (xs : List Syllable) → IsWord b s (x ∷ xs) → IsSyllable b s (Lit s 1) x
first-of b s x xs h = h.holds.0

-- ---- what is spelled
module _ (a b : Book) (g : Grows a b) (s : Sort) where
  pub grows-spells : (t : Tree) (x : Spelled) → Spells a s t x → Spells b s t x
  grows-spells t x h = record {
    word = grows-word a b g s x.word.items h.word;
    turns = (after a b s x.turns t x.word.items (pairs_of a x.word.items) g h.word refl (grows-turns a b g s x.turns t _ h.turns)).turns;
  }

  pub grows-rooms : (xs ys : List Syllable) → IsWord a s xs → IsWord a s ys → HaveRoom a xs ys → HaveRoom b xs ys
  grows-rooms xs ys h k r = record { small = omega (arith, ap total_size (grows-pairs a b g s xs h), ap total_size (grows-pairs a b g s ys k), r.small) }

-- ---- as the book grows
module _ (a b : Book) (g : Grows a b) (s : Sort) (xs : List Syllable) (h : IsWord a s xs) where
  pub runs-later : AreRuns (pairs_of a xs) → AreRuns (pairs_of b xs)
  runs-later r = subst (λ (ps : List (Tree × ℤ)). AreRuns ps) (sym (grows-pairs a b g s xs h)) r

  pub size-later : (n : ℕ) → n * total_size (pairs_of a xs) ≤ 2 ^ 126 → n * total_size (pairs_of b xs) ≤ 2 ^ 126
  size-later n r = subst (λ (ps : List (Tree × ℤ)). n * total_size ps ≤ 2 ^ 126) (sym (grows-pairs a b g s xs h)) r

  -- the product of the empty word and an inverse
  pub inverse-from : (ys : List Syllable) (r : Rewriting) (u : Tree) → ys ≡ [] → Turns b s r (product_tree s (word_tree s (pairs_of a ys)) (inverse_tree s (word_tree s (pairs_of a xs)))) u → Turns b s r (product_tree s (Lit s 1) (inverse_tree s (word_tree s (pairs_of b xs)))) (tree_of b.trees r.to)
  inverse-from ys r u e t =
      own-turns b s r _ u
      (turns-cast b s r _ (product_tree s (Lit s 1) (inverse_tree s (word_tree s (pairs_of b xs)))) u u
      (ap (λ (zs : List Syllable). product_tree s (word_tree s (pairs_of a zs)) (inverse_tree s (word_tree s (pairs_of a xs)))) e ∙ ap (λ (v : Tree). product_tree s (Lit s 1) (inverse_tree s v)) (sym (word-later a b g s xs h)))
      refl t)

-- ---- a product of words that stood before
module _ (a b : Book) (g : Grows a b) (s : Sort) (xs ys zs ws : List Syllable) (h : IsWord a s xs) (k : IsWord a s ys) (e : zs ≡ xs) (f : ws ≡ ys) where
  left_word : word_tree s (pairs_of b zs) ≡ word_tree s (pairs_of a xs)
  left_word = ap (λ (us : List Syllable). word_tree s (pairs_of b us)) e ∙ word-later a b g s xs h

  right_word : word_tree s (pairs_of b ws) ≡ word_tree s (pairs_of a ys)
  right_word = ap (λ (us : List Syllable). word_tree s (pairs_of b us)) f ∙ word-later a b g s ys k

  left_pairs : pairs_of b zs ≡ pairs_of a xs
  left_pairs = ap (pairs_of b) e ∙ grows-pairs a b g s xs h

  right_pairs : pairs_of b ws ≡ pairs_of a ys
  right_pairs = ap (pairs_of b) f ∙ grows-pairs a b g s ys k

  pub joined-from : (c : Book) (r : Rewriting) (u : Tree) → Turns c s r (product_tree s (word_tree s (pairs_of b zs)) (word_tree s (pairs_of b ws))) u → Turns c s r (product_tree s (word_tree s (pairs_of a xs)) (word_tree s (pairs_of a ys))) u
  joined-from c r u t = turns-cast c s r _ _ u u (λ i. product_tree s (left_word i) (right_word i)) refl t

  pub joined-same : joined (pairs_of b zs) (pairs_of b ws) ≡ joined (pairs_of a xs) (pairs_of a ys)
  joined-same = λ i. joined (left_pairs i) (right_pairs i)

  pub joined_inverse-from : (c : Book) (r : Rewriting) (u : Tree) → Turns c s r (product_tree s (word_tree s (pairs_of b zs)) (inverse_tree s (word_tree s (pairs_of b ws)))) u → Turns c s r (product_tree s (word_tree s (pairs_of a xs)) (inverse_tree s (word_tree s (pairs_of a ys)))) u
  joined_inverse-from c r u t = turns-cast c s r _ _ u u (λ i. product_tree s (left_word i) (inverse_tree s (right_word i))) refl t

  pub joined_inverse-same : joined_inverse (pairs_of b zs) (pairs_of b ws) ≡ joined_inverse (pairs_of a xs) (pairs_of a ys)
  joined_inverse-same = λ i. joined_inverse (left_pairs i) (right_pairs i)

  pub left-later : IsWord b s zs
  left-later = subst (λ (us : List Syllable). IsWord b s us) (sym e) (grows-word a b g s xs h)

  pub right-later : IsWord b s ws
  right-later = subst (λ (us : List Syllable). IsWord b s us) (sym f) (grows-word a b g s ys k)

  pub rooms-later : HaveRoom a xs ys → HaveRoom b zs ws
  rooms-later r = subst (λ (us : List Syllable). HaveRoom b us ws) (sym e) (subst (λ (us : List Syllable). HaveRoom b xs us) (sym f) (grows-rooms a b g s xs ys h k r))

-- ---- what was placed is spelled
pub spells-of : (b : Book) (s : Sort) (t : Tree) (x : Spelled) (ps : List (Tree × ℤ)) → Placed b s x.turns t x.word.items ps → Spells b s t x
spells-of b s t x ps h = record { word = h.word; turns = h.turns }

pub atom-placed : (a b c : Book) (s : Sort) (e p : ExprId) (r : Rewriting) (ys : List Syllable) → Grows a b → Grows b c → Stands a s e (tree_of a.trees e) → Stands b s p (syllable_tree s (tree_of a.trees e, pos 1)) → Turns c s r (tree_of b.trees e) (product_tree s (Lit s 1) (syllable_tree s (tree_of b.trees e, pos 1))) → ys ≡ (record { atom = e; exponent = pos 1; power = p; whole = r.to }) ∷ []
    → Placed c s r (tree_of a.trees e) ys ((tree_of a.trees e, pos 1) ∷ [])
atom-placed a b c s e p r ys g k h m t i =
    let q : tree_of b.trees e ≡ tree_of a.trees e = (grows-stands a b g s e _ h).tree in
    let w : tree_of c.trees e ≡ tree_of a.trees e = (grows-stands b c k s e _ (grows-stands a b g s e _ h)).tree in
    let turns : Turns c s r (tree_of a.trees e) (product_tree s (Lit s 1) (syllable_tree s (tree_of a.trees e, pos 1))) = subst (λ (u : Tree). Turns c s r u (product_tree s (Lit s 1) (syllable_tree s (u, pos 1)))) q t in
    let y : Syllable = record { atom = e; exponent = pos 1; power = p; whole = r.to } in
    let power : Stands c s p (syllable_tree s (tree_of a.trees e, pos 1)) = grows-stands b c k s p _ m in
    let syllable : IsPower c s y = record {
      atom = subst (λ (u : Tree). Stands c s e u) (sym w) (grows-stands b c k s e _ (grows-stands a b g s e _ h));
      some = above_zero 0;
      small = omega arith;
      power = subst (λ (u : Tree). Stands c s p (syllable_tree s (u, pos 1))) (sym w) power;
    } in
    let whole : Stands c s r.to (product_tree s (Lit s 1) (syllable_tree s (tree_of c.trees e, pos 1))) = subst (λ (u : Tree). Stands c s r.to (product_tree s (Lit s 1) (syllable_tree s (u, pos 1)))) (sym w) (target c s r _ _ turns) in
    let pairs : pairs_of c ys ≡ (tree_of a.trees e, pos 1) ∷ [] = ap (pairs_of c) i ∙ ap (λ (u : Tree). (u, pos 1) ∷ []) w in
    record {
      word = subst (λ (zs : List Syllable). IsWord c s zs) (sym i) (single-word c s y syllable whole);
      pairs = pairs;
      turns = turns-cast c s r _ _ _ _ refl (sym (ap (word_tree s) pairs)) turns;
    }

pub product-bits : (y z : ℤ) → InRange y → InRange z → InRange (y *ℤ z) → to_z w128 (of_z w128 (to_z w128 (of_z w128 y) *ℤ to_z w128 (of_z w128 z))) ≡ y *ℤ z
product-bits y z h k l = rw (same-bits y h, same-bits z k) (same-bits (y *ℤ z) l)
