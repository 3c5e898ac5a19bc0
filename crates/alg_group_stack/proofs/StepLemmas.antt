-- Steps after which the book has grown, and one turn of the loops over a word.
use Rattle.std.proofs.Common.{◌≡◌, ℕ, zero, suc, ◌+◌, ◌≤◌, ◌<◌, ◌^◌, arith, ℤ, pos, negsuc, neg_ℤ, false, List, [], ◌∷◌, ◌++◌, length, get_or, take, drop, refl, sym, ap, ◌∙◌, subst}
use Rattle.std.specs.Prelude.{unsigned_abs}
use Rattle.std.specs.Ordering.{int_eq}
use Rattle.std.proofs.lemmas.Int.{ints}
use Rattle.alg_terms.specs.declared.sorts.Sort.{Sort}
use Rattle.alg_num.specs.Range.{InRange}
use Rattle.alg_terms.specs.Tree.{Tree, product_tree}
use Rattle.alg_expr.specs.declared.ids.ExprId.{ExprId}
use Rattle.alg_expr.specs.Ids.{tree_of}
use Rattle.alg_expr.proofs.ArenaLaws.{tree_of-extends}
use Rattle.alg_build.specs.Book.{Book, Grows}
use Rattle.alg_build.specs.Rewriting.{Stands, Turns}
use Rattle.alg_build.specs.declared.rewriting.Rewriting.{Rewriting}
use Rattle.alg_build.proofs.Rewritings.{grows-stands}
use Rattle.alg_rows.specs.Operations.{inverse_tree}
use Rattle.alg_group_words.specs.Syllables.{push, joined, joined_inverse, total_size}
use Rattle.alg_group_words.proofs.Runs.{above_zero, below_zero}
use Rattle.alg_group_stack.specs.declared.syllable.Syllable.{Syllable}
use Rattle.alg_group_stack.specs.Words.{pair_of, pairs_of, syllable_tree, word_tree, IsPower, IsSyllable, IsWord, HasRoom}
use Rattle.alg_group_stack.proofs.WordLemmas.{Placed, grows-pair, grows-pairs, grows-power, grows-word, word-end}
use Rattle.alg_group_stack.proofs.JoinLemmas.{inverse-next, joined-next, pairs-next, word-at, word-take}

-- ---- a step after which the book has grown
pub after : (c d : Book) (s : Sort) (r : Rewriting) (t : Tree) (ys : List Syllable) (ps : List (Tree × ℤ)) → Grows c d → IsWord c s ys → pairs_of c ys ≡ ps → Turns d s r t (word_tree s (pairs_of c ys)) → Placed d s r t ys ps
after c d s r t ys ps g h e turns =
    let q : pairs_of d ys ≡ pairs_of c ys = grows-pairs c d g s ys h in
    record { word = grows-word c d g s ys h; pairs = q ∙ e; turns = subst (λ (qs : List (Tree × ℤ)). Turns d s r t (word_tree s qs)) (sym q) turns }

module _ (a b : Book) (g : Grows a b) (s : Sort) (xs : List Syllable) (h : IsWord a s xs) where
  pub grows-room : (z : ℤ) → HasRoom a xs z → HasRoom b xs z
  grows-room z r = record { small = subst (λ (ps : List (Tree × ℤ)). total_size ps + unsigned_abs z ≤ 2 ^ 126) (sym (grows-pairs a b g s xs h)) r.small }

  -- what a push says of a book that has grown before it
  pub pushed-from : (c : Book) (x : Syllable) (q : Rewriting) (u : Tree) → IsPower a s x → Turns c s q (product_tree s (word_tree s (pairs_of b xs)) (syllable_tree s (pair_of b x))) u → Turns c s q (product_tree s (word_tree s (pairs_of a xs)) (syllable_tree s (pair_of a x))) u
  pushed-from c x q u k turns =
      let one = subst (λ (ps : List (Tree × ℤ)). Turns c s q (product_tree s (word_tree s ps) (syllable_tree s (pair_of b x))) u) (grows-pairs a b g s xs h) turns in
      subst (λ (p : Tree × ℤ). Turns c s q (product_tree s (word_tree s (pairs_of a xs)) (syllable_tree s p)) u) (grows-pair a b g s x k) one

  pub pushed-pairs : (x : Syllable) → IsPower a s x → push (pairs_of b xs) (pair_of b x) ≡ push (pairs_of a xs) (pair_of a x)
  pushed-pairs x k = ap (λ (ps : List (Tree × ℤ)). push ps (pair_of b x)) (grows-pairs a b g s xs h) ∙ ap (push (pairs_of a xs)) (grows-pair a b g s x k)

-- ---- the inverse of a syllable
neg_some : (z : ℤ) → int_eq z (pos 0) ≡ false → int_eq (neg_ℤ z) (pos 0) ≡ false
neg_some (pos zero) e = cc
neg_some (pos (suc n)) e = below_zero n
neg_some (negsuc n) e = above_zero n

abs_minus : (z : ℤ) → unsigned_abs (neg_ℤ z) ≡ unsigned_abs z
abs_minus z = omega (arith, ints)

pub minus-small : (z : ℤ) → InRange z → InRange (neg_ℤ z)
minus-small z h = omega (arith, h, abs_minus z)

pub minus-power : (a b : Book) (s : Sort) (x : Syllable) (e w : ExprId) → Grows a b → IsPower a s x → Stands b s e (syllable_tree s (tree_of a.trees x.atom, neg_ℤ x.exponent)) → IsPower b s (record { atom = x.atom; exponent = neg_ℤ x.exponent; power = e; whole = w })
minus-power a b s x e w g h k =
    let q : tree_of b.trees x.atom ≡ tree_of a.trees x.atom = tree_of-extends a.trees b.trees x.atom g.trees h.atom.here in
    record {
      atom = (grows-power a b g s x h).atom;
      some = neg_some x.exponent h.some;
      small = minus-small x.exponent h.small;
      power = subst (λ (u : Tree). Stands b s e (syllable_tree s (u, neg_ℤ x.exponent))) (sym q) k;
    }

pub minus-room : (b : Book) (xs : List Syllable) (z : ℤ) → HasRoom b xs z → HasRoom b xs (neg_ℤ z)
minus-room b xs z h = record { small = omega (arith, h.small, abs_minus z) }

pub joined-start : (ss : List (Tree × ℤ)) → joined ss [] ≡ ss
unfolding joined
joined-start ss = refl

pub inverse-start : (ss : List (Tree × ℤ)) → joined_inverse ss [] ≡ ss
unfolding joined_inverse
inverse-start ss = refl

-- ---- one turn of the loops
module _ (a b c : Book) (g : Grows a b) (k : Grows b c) (s : Sort) (xs : List Syllable) (h : IsWord a s xs) (i : ℕ) (d : Syllable) (l : i < length xs) where
  syllable : IsSyllable a s (word_tree s (pairs_of a (take i xs))) (get_or xs i d)
  syllable = word-at a s xs i d h l

  pub same-pair : pair_of b (get_or xs i d) ≡ pair_of a (get_or xs i d)
  same-pair = grows-pair a b g s (get_or xs i d) syllable.power

  pub next-power : IsPower b s (get_or xs i d)
  next-power = grows-power a b g s (get_or xs i d) syllable.power

  pub next-tree : word_tree s (pairs_of a (take (suc i) xs)) ≡ product_tree s (word_tree s (pairs_of a (take i xs))) (syllable_tree s (pair_of a (get_or xs i d)))
  next-tree = ap (word_tree s) (pairs-next a xs i d l) ∙ word-end s (pairs_of a (take i xs)) (pair_of a (get_or xs i d))

  pub next-whole : Stands c s (get_or xs i d).whole (word_tree s (pairs_of a (take (suc i) xs)))
  next-whole = subst (λ (t : Tree). Stands c s (get_or xs i d).whole t) (sym next-tree) (grows-stands b c k s (get_or xs i d).whole _ (grows-stands a b g s (get_or xs i d).whole _ syllable.whole))

  pub next-pairs : (ss : List (Tree × ℤ)) (ys zs : List Syllable) → pairs_of b ys ≡ joined ss (pairs_of a (take i xs)) → pairs_of c zs ≡ push (pairs_of b ys) (pair_of b (get_or xs i d)) → pairs_of c zs ≡ joined ss (pairs_of a (take (suc i) xs))
  next-pairs ss ys zs e f =
      f
      ∙ ap (λ (ps : List (Tree × ℤ)). push ps (pair_of b (get_or xs i d))) e
      ∙ ap (push (joined ss (pairs_of a (take i xs)))) same-pair
      ∙ sym (joined-next a xs i d l ss)

  pub next-turns : (r : Rewriting) (v u : Tree) → Turns c s r (product_tree s v (product_tree s (word_tree s (pairs_of a (take i xs))) (syllable_tree s (pair_of b (get_or xs i d))))) u → Turns c s r (product_tree s v (word_tree s (pairs_of a (take (suc i) xs)))) u
  next-turns r v u h =
      let w : Turns c s r (product_tree s v (product_tree s (word_tree s (pairs_of a (take i xs))) (syllable_tree s (pair_of a (get_or xs i d))))) u = subst (λ (p : Tree × ℤ). Turns c s r (product_tree s v (product_tree s (word_tree s (pairs_of a (take i xs))) (syllable_tree s p))) u) same-pair h in
      subst (λ (t : Tree). Turns c s r (product_tree s v t) u) (sym next-tree) w

-- ---- what a push of an inverse says of the book before it
module _ (a b : Book) (g : Grows a b) (s : Sort) (xs : List Syllable) (h : IsWord a s xs) (x : Syllable) (e w : ExprId) (k : IsPower a s x) where
  minus-pair : pair_of b (record { atom = x.atom; exponent = neg_ℤ x.exponent; power = e; whole = w }) ≡ (tree_of a.trees x.atom, neg_ℤ x.exponent)
  minus-pair = ap (λ (t : Tree). (t, neg_ℤ x.exponent)) (tree_of-extends a.trees b.trees x.atom g.trees k.atom.here)

  pub minus-from : (c : Book) (q : Rewriting) (u : Tree) → Turns c s q (product_tree s (word_tree s (pairs_of b xs)) (syllable_tree s (pair_of b (record { atom = x.atom; exponent = neg_ℤ x.exponent; power = e; whole = w })))) u → Turns c s q (product_tree s (word_tree s (pairs_of a xs)) (syllable_tree s (tree_of a.trees x.atom, neg_ℤ x.exponent))) u
  minus-from c q u turns =
      let one = subst (λ (ps : List (Tree × ℤ)). Turns c s q (product_tree s (word_tree s ps) (syllable_tree s (pair_of b (record { atom = x.atom; exponent = neg_ℤ x.exponent; power = e; whole = w })))) u) (grows-pairs a b g s xs h) turns in
      subst (λ (p : Tree × ℤ). Turns c s q (product_tree s (word_tree s (pairs_of a xs)) (syllable_tree s p)) u) minus-pair one

  pub minus-pairs : push (pairs_of b xs) (pair_of b (record { atom = x.atom; exponent = neg_ℤ x.exponent; power = e; whole = w })) ≡ push (pairs_of a xs) (tree_of a.trees x.atom, neg_ℤ x.exponent)
  minus-pairs = ap (λ (ps : List (Tree × ℤ)). push ps (pair_of b (record { atom = x.atom; exponent = neg_ℤ x.exponent; power = e; whole = w }))) (grows-pairs a b g s xs h) ∙ ap (push (pairs_of a xs)) minus-pair

-- ---- rewritings between equal trees
pub turns-cast : (b : Book) (s : Sort) (r : Rewriting) (t v u w : Tree) → t ≡ v → u ≡ w → Turns b s r t u → Turns b s r v w
turns-cast b s r t v u w e f h = subst (λ (x : Tree). Turns b s r v x) f (subst (λ (x : Tree). Turns b s r x u) e h)

pub word-later : (a b : Book) → Grows a b → (s : Sort) (xs : List Syllable) → IsWord a s xs → word_tree s (pairs_of b xs) ≡ word_tree s (pairs_of a xs)
word-later a b g s xs h = ap (word_tree s) (grows-pairs a b g s xs h)

-- ---- one turn of the loop from the end
module _ (a b c : Book) (g : Grows a b) (k : Grows b c) (s : Sort) (xs : List Syllable) (h : IsWord a s xs) (i : ℕ) (d : Syllable) (l : i < length xs) where
  pub taken-turns : (r : Rewriting) (v u : Tree) (e : ExprId) → Stands b s e (word_tree s (pairs_of b (take i xs))) → Turns c s r (product_tree s v (inverse_tree s (product_tree s (tree_of b.trees e) (syllable_tree s (pair_of b (get_or xs i d)))))) (product_tree s u (inverse_tree s (tree_of b.trees e)))
      → Turns c s r (product_tree s v (inverse_tree s (word_tree s (pairs_of a (take (suc i) xs))))) (product_tree s u (inverse_tree s (word_tree s (pairs_of a (take i xs)))))
  taken-turns r v u e st t =
      let q : tree_of b.trees e ≡ word_tree s (pairs_of a (take i xs)) = st.tree ∙ word-later a b g s (take i xs) (word-take a s xs i h) in
      let p : pair_of b (get_or xs i d) ≡ pair_of a (get_or xs i d) = same-pair a b c g k s xs h i d l in
      turns-cast c s r _ _ _ _
      ((λ j. product_tree s v (inverse_tree s (product_tree s (q j) (syllable_tree s (p j))))) ∙ ap (λ (w : Tree). product_tree s v (inverse_tree s w)) (sym (next-tree a b c g k s xs h i d l)))
      (λ j. product_tree s u (inverse_tree s (q j))) t

  pub taken-pairs : (ss : List (Tree × ℤ)) (ys zs : List Syllable) → pairs_of b ys ≡ joined_inverse ss (pairs_of a (drop (suc i) xs)) → pairs_of c zs ≡ push (pairs_of b ys) (tree_of b.trees (get_or xs i d).atom, neg_ℤ (get_or xs i d).exponent) → pairs_of c zs ≡ joined_inverse ss (pairs_of a (drop i xs))
  taken-pairs ss ys zs e f =
      let p : pair_of b (get_or xs i d) ≡ pair_of a (get_or xs i d) = same-pair a b c g k s xs h i d l in
      f ∙ (λ j. push (e j) ((p j).0, neg_ℤ (get_or xs i d).exponent)) ∙ sym (inverse-next a xs i d l ss)
