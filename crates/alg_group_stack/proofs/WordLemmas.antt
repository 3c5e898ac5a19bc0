-- Words as the book grows, and what stands at their ends.
use Rattle.std.proofs.Common.{◌≡◌, ◌+◌, ◌≤◌, ◌^◌, arith, ℤ, pos, ◌+ℤ◌, false, true, Bool, cond, List, [], ◌∷◌, ◌++◌, append_assoc, append-nil, refl, sym, ap, ◌∙◌, subst}
use Rattle.std.specs.Prelude.{unsigned_abs}
use Rattle.std.specs.Ordering.{int_eq}
use Rattle.std.proofs.lemmas.Int.{ints}
use Rattle.alg_terms.specs.declared.sorts.Sort.{Sort}
use Rattle.alg_terms.specs.declared.sorts.Sort.TheVariants.{Int}
use Rattle.alg_num.specs.Range.{InRange}
use Rattle.alg_terms.specs.Tree.{Tree, Lit, product_tree}
use Rattle.alg_terms.specs.Order.{tree_same}
use Rattle.alg_expr.specs.declared.ids.ExprId.{ExprId}
use Rattle.alg_expr.specs.Ids.{tree_of, IsIn}
use Rattle.alg_expr.proofs.ArenaLaws.{tree_of-extends}
use Rattle.alg_build.specs.Book.{Book, Grows}
use Rattle.alg_build.specs.Rewriting.{Stands, Turns}
use Rattle.alg_build.specs.declared.rewriting.Rewriting.{Rewriting}
use Rattle.alg_build.proofs.Rewritings.{grows-stands, target}
use Rattle.alg_rows.specs.Operations.{integer_power_tree}
use Rattle.alg_numerals.specs.WholeTree.{whole_tree}
use Rattle.alg_group_words.specs.Syllables.{kept, push, total_size}
use Rattle.alg_group_words.proofs.Stack.{push-end}
use Rattle.alg_group_stack.specs.declared.syllable.Syllable.{Syllable}
use Rattle.alg_group_stack.specs.Words.{pair_of, pairs_of, syllable_tree, times_all, word_tree, IsPower, IsSyllable, Holds, IsWord, HasRoom}
use Rattle.alg_group_stack.proofs.Homes.{homes}

-- ---- the tree of a word
pub times-end : (s : Sort) (t : Tree) (ps : List (Tree × ℤ)) (p : Tree × ℤ) → times_all s t (ps ++ p ∷ []) ≡ product_tree s (times_all s t ps) (syllable_tree s p)
times-end s t [] p = refl
times-end s t (q ∷ ps) p = times-end s (product_tree s t (syllable_tree s q)) ps p

pub word-end : (s : Sort) (ps : List (Tree × ℤ)) (p : Tree × ℤ) → word_tree s (ps ++ p ∷ []) ≡ product_tree s (word_tree s ps) (syllable_tree s p)
word-end s ps p = times-end s (Lit s 1) ps p

pub pairs-append : (b : Book) (xs ys : List Syllable) → pairs_of b (xs ++ ys) ≡ pairs_of b xs ++ pairs_of b ys
pairs-append b [] ys = refl
pairs-append b (x ∷ xs) ys = ap (λ ps. pair_of b x ∷ ps) (pairs-append b xs ys)

-- ---- growth
module _ (a b : Book) (g : Grows a b) (s : Sort) where
  pub grows-pair : (x : Syllable) → IsPower a s x → pair_of b x ≡ pair_of a x
  grows-pair x h = ap (λ (t : Tree). (t, x.exponent)) (tree_of-extends a.trees b.trees x.atom g.trees h.atom.here)

  pub grows-power : (x : Syllable) → IsPower a s x → IsPower b s x
  grows-power x h =
      let e : tree_of b.trees x.atom ≡ tree_of a.trees x.atom = tree_of-extends a.trees b.trees x.atom g.trees h.atom.here in
      record {
        atom = rw e (grows-stands a b g s x.atom _ h.atom);
        some = h.some;
        small = h.small;
        power = rw e (grows-stands a b g s x.power _ h.power);
      }

  grows-holds : (t : Tree) (xs : List Syllable) → Holds a s t xs → (Holds b s t xs) × (pairs_of b xs ≡ pairs_of a xs)
  grows-holds t [] h = (tt, refl)
  grows-holds t (x ∷ xs) h =
      let e : pair_of b x ≡ pair_of a x = grows-pair x h.0.power in
      let q = grows-holds (product_tree s t (syllable_tree s (pair_of a x))) xs h.1 in
      let P : Tree × ℤ → Type 0 = λ p. IsPower b s x × Stands b s x.whole (product_tree s t (syllable_tree s p)) in
      let w : Stands b s x.whole (product_tree s t (syllable_tree s (pair_of a x))) = grows-stands a b g s x.whole _ h.0.whole in
      let v : Stands b s x.whole (product_tree s t (syllable_tree s (pair_of b x))) = subst (λ (p : Tree × ℤ). Stands b s x.whole (product_tree s t (syllable_tree s p))) (sym e) w in
      let r : Holds b s (product_tree s t (syllable_tree s (pair_of b x))) xs = subst (λ (p : Tree × ℤ). Holds b s (product_tree s t (syllable_tree s p)) xs) (sym e) q.0 in
      ((record { power = grows-power x h.0.power; whole = v }, r), λ i. e i ∷ q.1 i)

  pub grows-word : (xs : List Syllable) → IsWord a s xs → IsWord b s xs
  grows-word xs h = record { holds = (grows-holds (Lit s 1) xs h.holds).0 }

  pub grows-pairs : (xs : List Syllable) → IsWord a s xs → pairs_of b xs ≡ pairs_of a xs
  grows-pairs xs h = (grows-holds (Lit s 1) xs h.holds).1

-- ---- the end of a word
module _ (b : Book) (s : Sort) where
  holds-end : (t : Tree) (xs : List Syllable) (x : Syllable) → Holds b s t xs → IsSyllable b s (times_all s t (pairs_of b xs)) x → Holds b s t (xs ++ x ∷ [])
  holds-end t [] x h k = (k, tt)
  holds-end t (y ∷ xs) x h k = (h.0, holds-end (product_tree s t (syllable_tree s (pair_of b y))) xs x h.1 k)

  end-holds : (t : Tree) (xs : List Syllable) (x : Syllable) → Holds b s t (xs ++ x ∷ []) → (Holds b s t xs) × IsSyllable b s (times_all s t (pairs_of b xs)) x
  end-holds t [] x h = (tt, h.0)
  end-holds t (y ∷ xs) x h = let q = end-holds (product_tree s t (syllable_tree s (pair_of b y))) xs x h.1 in ((h.0, q.0), q.1)

  pub word-before : (xs : List Syllable) (x : Syllable) → IsWord b s (xs ++ x ∷ []) → IsWord b s xs
  word-before xs x h = record { holds = (end-holds (Lit s 1) xs x h.holds).0 }

  pub word-last : (xs : List Syllable) (x : Syllable) → IsWord b s (xs ++ x ∷ []) → IsSyllable b s (word_tree s (pairs_of b xs)) x
  word-last xs x h = (end-holds (Lit s 1) xs x h.holds).1

  pub word-next : (xs : List Syllable) (x : Syllable) → IsWord b s xs → IsSyllable b s (word_tree s (pairs_of b xs)) x → IsWord b s (xs ++ x ∷ [])
  word-next xs x h k = record { holds = holds-end (Lit s 1) xs x h.holds k }

-- ---- a syllable that was put at the end
pub record Placed (b : Book) (s : Sort) (r : Rewriting) (t : Tree) (ys : List Syllable) (ps : List (Tree × ℤ)) : Type 0 where
  pub word : IsWord b s ys
  pub pairs : pairs_of b ys ≡ ps
  pub turns : Turns b s r t (word_tree s (pairs_of b ys))

pub placed : (a b : Book) (s : Sort) (xs ys : List Syllable) (y : Syllable) (r : Rewriting) (t : Tree) (p : Tree × ℤ) → Grows a b → IsWord a s xs → IsPower b s y → pair_of b y ≡ p → y.whole ≡ r.to → Turns b s r t (product_tree s (word_tree s (pairs_of a xs)) (syllable_tree s p)) → ys ≡ xs ++ y ∷ [] → Placed b s r t ys (pairs_of a xs ++ p ∷ [])
placed a b s xs ys y r t p g h k e w turns i =
    let q : pairs_of b xs ≡ pairs_of a xs = grows-pairs a b g s xs h in
    let stand : Stands b s r.to (product_tree s (word_tree s (pairs_of a xs)) (syllable_tree s p)) = target b s r t _ turns in
    let first : Stands b s y.whole (product_tree s (word_tree s (pairs_of a xs)) (syllable_tree s p)) = subst (λ (f : ExprId). Stands b s f (product_tree s (word_tree s (pairs_of a xs)) (syllable_tree s p))) (sym w) stand in
    let second : Stands b s y.whole (product_tree s (word_tree s (pairs_of b xs)) (syllable_tree s p)) = subst (λ (ps : List (Tree × ℤ)). Stands b s y.whole (product_tree s (word_tree s ps) (syllable_tree s p))) (sym q) first in
    let third : Stands b s y.whole (product_tree s (word_tree s (pairs_of b xs)) (syllable_tree s (pair_of b y))) = subst (λ (z : Tree × ℤ). Stands b s y.whole (product_tree s (word_tree s (pairs_of b xs)) (syllable_tree s z))) (sym e) second in
    let all : pairs_of b ys ≡ pairs_of a xs ++ p ∷ [] = ap (pairs_of b) i ∙ pairs-append b xs (y ∷ []) ∙ (λ j. q j ++ e j ∷ []) in
    record {
      word = subst (λ (zs : List Syllable). IsWord b s zs) (sym i) (word-next b s xs y (grows-word a b g s xs h) (record { power = k; whole = third }));
      pairs = all;
      turns = subst (λ (u : Tree). Turns b s r t u) (sym (ap (word_tree s) all ∙ word-end s (pairs_of a xs) p)) turns;
    }

-- one that stood elsewhere
pub placed_same : (a b : Book) (s : Sort) (xs ys : List Syllable) (x : Syllable) (r : Rewriting) (t : Tree) → Grows a b → IsWord a s xs → IsPower a s x → Turns b s r t (product_tree s (word_tree s (pairs_of a xs)) (syllable_tree s (pair_of a x))) → ys ≡ xs ++ (record { atom = x.atom; exponent = x.exponent; power = x.power; whole = r.to }) ∷ [] → Placed b s r t ys (pairs_of a xs ++ pair_of a x ∷ [])
placed_same a b s xs ys x r t g h k turns i =
    let w = grows-power a b g s x k in
    placed a b s xs ys (record { atom = x.atom; exponent = x.exponent; power = x.power; whole = r.to }) r t (pair_of a x) g h (record { atom = w.atom; some = w.some; small = w.small; power = w.power }) (grows-pair a b g s x k) refl turns i

-- one with another exponent
pub placed_met : (a b : Book) (s : Sort) (xs ys : List Syllable) (x : Syllable) (z : ℤ) (e : ExprId) (r : Rewriting) (t : Tree) → Grows a b → IsWord a s xs → IsPower a s x → int_eq z (pos 0) ≡ false → InRange z → Stands b s e (syllable_tree s (tree_of a.trees x.atom, z)) → Turns b s r t (product_tree s (word_tree s (pairs_of a xs)) (syllable_tree s (tree_of a.trees x.atom, z))) → ys ≡ xs ++ (record { atom = x.atom; exponent = z; power = e; whole = r.to }) ∷ [] → Placed b s r t ys (pairs_of a xs ++ (tree_of a.trees x.atom, z) ∷ [])
placed_met a b s xs ys x z e r t g h k n small stands turns i =
    let w = grows-power a b g s x k in
    let q : tree_of b.trees x.atom ≡ tree_of a.trees x.atom = tree_of-extends a.trees b.trees x.atom g.trees k.atom.here in
    placed a b s xs ys (record { atom = x.atom; exponent = z; power = e; whole = r.to }) r t (tree_of a.trees x.atom, z) g h
    (record { atom = w.atom; some = n; small = small; power = subst (λ (u : Tree). Stands b s e (syllable_tree s (u, z))) (sym q) stands })
    (ap (λ (u : Tree). (u, z)) q) refl turns i

-- none is new
pub unplaced : (a b : Book) (s : Sort) (xs : List Syllable) (p : Tree × ℤ) (r : Rewriting) (t : Tree) → Grows a b → IsWord a s xs → int_eq p.1 (pos 0) ≡ true → Turns b s r t (word_tree s (pairs_of a xs)) → Placed b s r t xs (pairs_of a xs ++ kept p [])
unplaced a b s xs p r t g h n turns =
    let q : pairs_of b xs ≡ pairs_of a xs = grows-pairs a b g s xs h in
    record {
      word = grows-word a b g s xs h;
      pairs = q ∙ sym (append-nil (pairs_of a xs)) ∙ ap (λ (b : Bool). pairs_of a xs ++ cond b [] (p ∷ [])) (sym n);
      turns = subst (λ (ps : List (Tree × ℤ)). Turns b s r t (word_tree s ps)) (sym q) turns;
    }

pub kept-some : (p : Tree × ℤ) → int_eq p.1 (pos 0) ≡ false → kept p [] ≡ p ∷ []
kept-some p n = ap (λ (b : Bool). cond b [] (p ∷ [])) n

-- ---- what is pushed on the end of a word
same_end : (t s : Tree × ℤ) (b : Bool) → tree_same t.0 s.0 ≡ b → b ≡ true → cond b (kept (t.0, t.1 +ℤ s.1) []) (t ∷ kept s []) ≡ kept (t.0, t.1 +ℤ s.1) []
same_end t s true e h = refl
same_end t s false e h = cc

pub push-same : (ps : List (Tree × ℤ)) (t s : Tree × ℤ) → tree_same t.0 s.0 ≡ true → push (ps ++ t ∷ []) s ≡ ps ++ kept (t.0, t.1 +ℤ s.1) []
push-same ps t s e = push-end ps t s ∙ ap (λ (x : List (Tree × ℤ)). ps ++ x) (same_end t s (tree_same t.0 s.0) refl e)

pub push-other : (ps : List (Tree × ℤ)) (t s : Tree × ℤ) → tree_same t.0 s.0 ≡ false → int_eq s.1 (pos 0) ≡ false → push (ps ++ t ∷ []) s ≡ (ps ++ t ∷ []) ++ s ∷ []
push-other ps t s e n =
    push-end ps t s
    ∙ ap (λ (b : Bool). ps ++ cond b (kept (t.0, t.1 +ℤ s.1) []) (t ∷ kept s [])) e
    ∙ ap (λ (x : List (Tree × ℤ)). ps ++ t ∷ x) (kept-some s n)
    ∙ sym (append_assoc ps (t ∷ []) (s ∷ []))

-- by 0
pub zero-tree : (s : Sort) (t : Tree) (z : ℤ) → z ≡ pos 0 → syllable_tree s (t, z) ≡ integer_power_tree s t (Lit Int 0)
unfolding whole_tree
zero-tree s t z e = ap (λ (y : ℤ). integer_power_tree s t (whole_tree Int y)) e

pub ruleset word_facts = (homes, grows-word, grows-power)

pub zero-turns : (a b c : Book) (s : Sort) (e : ExprId) (z : ℤ) (q : Rewriting) (u : Tree) → Grows a b → IsIn a.trees e → z ≡ pos 0 → Turns c s q (integer_power_tree s (tree_of b.trees e) (Lit Int 0)) u → Turns c s q (syllable_tree s (tree_of a.trees e, z)) u
zero-turns a b c s e z q u g here n h =
    let w : tree_of b.trees e ≡ tree_of a.trees e = tree_of-extends a.trees b.trees e g.trees here in
    subst (λ (t : Tree). Turns c s q t u) (sym (zero-tree s (tree_of a.trees e) z n ∙ ap (λ (t : Tree). integer_power_tree s t (Lit Int 0)) (sym w))) h

-- ---- room
size-end : (ps : List (Tree × ℤ)) (p : Tree × ℤ) → total_size (ps ++ p ∷ []) ≡ total_size ps + unsigned_abs p.1
size-end [] p = omega arith
size-end (q ∷ ps) p = omega (arith, size-end ps p)

abs_plus : (a b : ℤ) → unsigned_abs (a +ℤ b) ≤ unsigned_abs a + unsigned_abs b
abs_plus a b = omega (arith, ints)

pub room-meet : (b : Book) (xs ys : List Syllable) (x : Syllable) (z : ℤ) → ys ≡ xs ++ x ∷ [] → HasRoom b ys z → InRange (x.exponent +ℤ z)
room-meet b xs ys x z e h =
    let q : pairs_of b ys ≡ pairs_of b xs ++ pair_of b x ∷ [] = ap (pairs_of b) e ∙ pairs-append b xs (x ∷ []) in
    omega (arith, h.small, ap total_size q, size-end (pairs_of b xs) (pair_of b x), abs_plus x.exponent z)
