-- Trees of sorted sums that get one more term, and the ids that stand for them.
use Rattle.std.proofs.Common.{◌≡◌, ℕ, zero, suc, ◌+◌, ◌<◌, ◌≤◌, List, [], ◌∷◌, ◌++◌, length, take, get_or, refl, ap, ap₂, sym, ◌∙◌, arith, add-one, length-append, ◌⊎◌, inl, inr}
use Rattle.std.specs.Prelude.{◌≢◌}
use Rattle.std.proofs.Math.Seq.{take-suc, get_or-append_seam}
use Rattle.std.proofs.Math.ListN.{get_or-append}
use Rattle.std.proofs.lemmas.List.{take-append-le, get_or-take, length-take-le}
use Rattle.alg_terms.specs.declared.sorts.Sort.{Sort}
use Rattle.alg_terms.specs.Tree.{Tree, Lit, sum_tree}
use Rattle.alg_expr.specs.declared.ids.ExprId.{ExprId}
use Rattle.alg_expr.specs.Ids.{tree_of}
use Rattle.alg_sums.specs.Rational.{rational}
use Rattle.alg_build.specs.Book.{Book, Grows, Proves}
use Rattle.alg_build.specs.Rewriting.{Stands}
use Rattle.alg_build.proofs.Lines.{grows-proves}
use Rattle.alg_build.proofs.Rewritings.{grows-stands}
use Rattle.alg_monomials.specs.declared.monomials.Monomial.{Monomial}
use Rattle.alg_monomials.specs.declared.terms.Term.{Term}
use Rattle.alg_monomials.specs.Monomials.{no_monomial}
use Rattle.alg_monomials.specs.Terms.{no_term, TakesLeft, TakesRight, TakesBoth, ComeBefore}
use Rattle.alg_monomials.proofs.MergingTerms.{merged_left, merged_right, merged_both, merged_none, merged_first_left, merged_first_right, merged_terms}
use Rattle.alg_sorted_sums.specs.Writing.{Writing}
use Rattle.alg_sorted_sums.specs.Sums.{monomial_at, term_tree, sum_from, sum_of, sum_at, AreKeys, IsTermOf, IsSum}
use Rattle.alg_sorted_sums.specs.Merging.{BothSums, IsMerging, AreMerging, IsSumOf}

take-whole : (ts : List Term) (k : ℕ) → length ts ≡ k → take k ts ≡ ts
take-whole [] k e = rw (← e) refl
take-whole (t ∷ ts) k e = rw (← e) (ap (λ r. t ∷ r) (take-whole ts (length ts) refl))

take-take : (ts : List Term) (m i : ℕ) → m ≤ i → take m (take i ts) ≡ take m ts
take-take ts zero i h = refl
take-take ts (suc m) zero h = absurd (omega arith)
take-take [] (suc m) (suc i) h = refl
take-take (t ∷ ts) (suc m) (suc i) h = ap (λ r. t ∷ r) (take-take ts m i (omega arith))

below : (k n : ℕ) → k < suc n → (k < n) ⊎ (k ≡ n)
below k n h = grind arith

within : (k n : ℕ) → k ≤ suc n → (k ≤ n) ⊎ (k ≡ suc n)
within k n h = grind arith

-- what is read from a list, where it is there

other_term : (ts : List Term) (i : ℕ) (x y : Term) → i < length ts → get_or ts i x ≡ get_or ts i y
other_term [] i x y h = absurd (omega arith)
other_term (t ∷ ts) zero x y h = refl
other_term (t ∷ ts) (suc i) x y h = other_term ts i x y (omega (arith, h))

pub read_term : (ts : List Term) (i : ℕ) (x : Term) → i < length ts → x ≡ get_or ts i x → x ≡ get_or ts i no_term
read_term ts i x h e = e ∙ other_term ts i x no_term h

pub read_monomial : (ms : List Monomial) (i : ℕ) (x : Monomial) → i < length ms → get_or ms i x ≡ get_or ms i no_monomial
read_monomial [] i x h = absurd (omega arith)
read_monomial (m ∷ ms) zero x h = refl
read_monomial (m ∷ ms) (suc i) x h = read_monomial ms i x (omega (arith, h))

module _ (w : Writing) (s : Sort) (keys : List Tree) where
  sum_from-push : (t : Tree) (ts : List Term) (u : Term) → sum_from w s keys t (ts ++ u ∷ []) ≡ sum_tree s (sum_from w s keys t ts) (term_tree w s keys u)
  unfolding sum_from
  sum_from-push t [] u = refl
  sum_from-push t (v ∷ vs) u = sum_from-push (sum_tree s t (term_tree w s keys v)) vs u

  pub nothing-of : sum_of w s keys [] ≡ Lit s 0
  unfolding sum_of sum_from
  nothing-of = refl

  pub sum_of-push : (ts : List Term) (t : Term) → sum_of w s keys (ts ++ t ∷ []) ≡ sum_tree s (sum_of w s keys ts) (term_tree w s keys t)
  unfolding sum_of
  sum_of-push ts t = sum_from-push (Lit s 0) ts t

  pub sum_of-take : (ts : List Term) (i : ℕ) → i < length ts → sum_of w s keys (take (suc i) ts) ≡ sum_tree s (sum_of w s keys (take i ts)) (term_tree w s keys (get_or ts i no_term))
  sum_of-take ts i h = ap (sum_of w s keys) (take-suc ts i no_term h) ∙ sum_of-push (take i ts) (get_or ts i no_term)

  module _ (table : List Monomial) (z : ExprId) where
    sum_at-append : (ts us : List Term) (k : ℕ) → k ≤ length ts → sum_at z (ts ++ us) k ≡ sum_at z ts k
    sum_at-append ts us zero h = refl
    sum_at-append ts us (suc k) h = ap (λ (t : Term). t.sum) (get_or-append ts us no_term k (omega arith))

    module _ (a b : Book) (g : Grows a b) where
      pub term_grows : (t : Term) → IsTermOf w a s keys table t → IsTermOf w b s keys table t
      term_grows t h = record { known = h.known; stands = grows-stands a b g s _ _ h.stands }

      pub keys_grow : AreKeys a s keys table → AreKeys b s keys table
      keys_grow h = record { each = λ k l. grows-stands a b g s _ _ (h.each k l); one = h.one }

      pub sum_grows : (ts : List Term) → IsSum w a s keys table z ts → IsSum w b s keys table z ts
      sum_grows ts h = record { terms = λ k l. term_grows _ (h.terms k l); sums = λ k l. grows-stands a b g s _ _ (h.sums k l) }

    module _ (b : Book) (ts : List Term) (t : Term) (h : IsSum w b s keys table z ts) (m : IsTermOf w b s keys table t) (u : Stands b s t.sum (sum_of w s keys (ts ++ t ∷ []))) where
      its_length : length (ts ++ t ∷ []) ≡ suc (length ts)
      its_length = length-append ts (t ∷ []) ∙ add-one (length ts)

      last_at : sum_at z (ts ++ t ∷ []) (suc (length ts)) ≡ t.sum
      last_at = ap (λ (x : Term). x.sum) (get_or-append_seam ts t [] no_term)

      term_pushed : (k : ℕ) → (k < length ts) ⊎ (k ≡ length ts) → IsTermOf w b s keys table (get_or (ts ++ t ∷ []) k no_term)
      term_pushed k (inl l) = rw (get_or-append ts (t ∷ []) no_term k l) (h.terms k l)
      term_pushed k (inr e) = rw (e, get_or-append_seam ts t [] no_term) m

      sum_pushed : (k : ℕ) → (k ≤ length ts) ⊎ (k ≡ suc (length ts)) → Stands b s (sum_at z (ts ++ t ∷ []) k) (sum_of w s keys (take k (ts ++ t ∷ [])))
      sum_pushed k (inl l) = rw (sum_at-append ts (t ∷ []) k l, take-append-le k ts (t ∷ []) l) (h.sums k l)
      sum_pushed k (inr e) =
          let whole : take (suc (length ts)) (ts ++ t ∷ []) ≡ ts ++ t ∷ [] = take-whole (ts ++ t ∷ []) (suc (length ts)) its_length in
          rw (e, whole, last_at) u

      pub sum_push : IsSum w b s keys table z (ts ++ t ∷ [])
      sum_push = record {
        terms = λ k l. term_pushed k (below k (length ts) (rw its_length at l));
        sums = λ k l. sum_pushed k (within k (length ts) (rw its_length at l));
      }

    -- the first terms of a sum
    module _ (b : Book) (ts : List Term) (i : ℕ) (l : i ≤ length ts) where
      size : length (take i ts) ≡ i
      size = length-take-le i ts l

      same_at : (m : ℕ) → m < i → get_or (take i ts) m no_term ≡ get_or ts m no_term
      same_at m n = get_or-take i ts m no_term n

      same_sum : (m : ℕ) → m ≤ i → sum_at z (take i ts) m ≡ sum_at z ts m
      same_sum zero n = refl
      same_sum (suc m) n = ap (λ (t : Term). t.sum) (same_at m (omega arith))

      pub prefix_sum : IsSum w b s keys table z ts → IsSum w b s keys table z (take i ts)
      prefix_sum h = record {
        terms = λ m n. let k : m < i = omega (arith, size, n) in rw (same_at m k) (h.terms m (omega arith));
        sums = λ m n. let k : m ≤ i = omega (arith, size, n) in rw (same_sum m k, take-take ts m i k) (h.sums m (omega arith));
      }

module _ (w : Writing) (s : Sort) (keys : List Tree) (table : List Monomial) (z : ExprId) (a b : Book) (g : Grows a b) (p q done : List Term) (i j : ℕ) (d : ExprId) (n : ℕ) (h : IsMerging w a s keys table z p q done i j d n) (e : ExprId) (k : ℕ) where
  left_tree : tree_of a.trees (sum_at z p i) ≡ sum_of w s keys (take i p)
  left_tree = (h.left.sums i h.left_in).tree

  right_tree : tree_of a.trees (sum_at z q j) ≡ sum_of w s keys (take j q)
  right_tree = (h.right.sums j h.right_in).tree

  pub left_stays : (t : Term) → t ≡ get_or p i no_term → TakesLeft table p q i j
      → Stands b s e (sum_tree s (tree_of a.trees d) (tree_of a.trees t.tree))
      → Proves b k (sum_tree s (sum_tree s (tree_of a.trees (sum_at z p i)) (tree_of a.trees t.tree)) (tree_of a.trees (sum_at z q j))) (sum_tree s (tree_of a.trees d) (tree_of a.trees t.tree))
      → IsMerging w b s keys table z p q (done ++ (record t { sum = e }) ∷ []) (i + 1) j e k
  left_stays t y tk u v =
      let l : i < length p = tk.more in
      let m : IsTermOf w a s keys table t = rw y (h.left.terms i l) in
      let x : Term = record t { sum = e } in
      let o : IsTermOf w b s keys table x = record { known = m.known; stands = grows-stands a b g s _ _ m.stands } in
      let f : Stands b s e (sum_of w s keys (done ++ x ∷ [])) = rw sum_of-push (rw (h.stands.tree, m.stands.tree) at u) in
      record {
        keys_stand = keys_grow w s keys table z a b g h.keys_stand;
        left = sum_grows w s keys table z a b g p h.left;
        right = sum_grows w s keys table z a b g q h.right;
        left_in = omega arith;
        right_in = h.right_in;
        done_sum = sum_push w s keys table z b done x (sum_grows w s keys table z a b g done h.done_sum) o f;
        stands = f;
        merged = merged_left w.meaning table p q done i j h.merged tk x (ap (λ (o : Term). o.monomial) y) (ap (λ (o : Term). o.value) y);
        line = rw (sum_of-push, add-one, sum_of-take w s keys p i l, ← y) (rw (left_tree, right_tree, h.stands.tree, m.stands.tree) at v);
      }

  pub right_stays : (t : Term) → t ≡ get_or q j no_term → TakesRight table p q i j
      → Stands b s e (sum_tree s (tree_of a.trees d) (tree_of a.trees t.tree))
      → Proves b k (sum_tree s (tree_of a.trees (sum_at z p i)) (sum_tree s (tree_of a.trees (sum_at z q j)) (tree_of a.trees t.tree))) (sum_tree s (tree_of a.trees d) (tree_of a.trees t.tree))
      → IsMerging w b s keys table z p q (done ++ (record t { sum = e }) ∷ []) i (j + 1) e k
  right_stays t y tk u v =
      let l : j < length q = tk.more in
      let m : IsTermOf w a s keys table t = rw y (h.right.terms j l) in
      let x : Term = record t { sum = e } in
      let o : IsTermOf w b s keys table x = record { known = m.known; stands = grows-stands a b g s _ _ m.stands } in
      let f : Stands b s e (sum_of w s keys (done ++ x ∷ [])) = rw sum_of-push (rw (h.stands.tree, m.stands.tree) at u) in
      record {
        keys_stand = keys_grow w s keys table z a b g h.keys_stand;
        left = sum_grows w s keys table z a b g p h.left;
        right = sum_grows w s keys table z a b g q h.right;
        left_in = h.left_in;
        right_in = omega arith;
        done_sum = sum_push w s keys table z b done x (sum_grows w s keys table z a b g done h.done_sum) o f;
        stands = f;
        merged = merged_right w.meaning table p q done i j h.merged tk x (ap (λ (o : Term). o.monomial) y) (ap (λ (o : Term). o.value) y);
        line = rw (sum_of-push, add-one, sum_of-take w s keys q j l, ← y) (rw (left_tree, right_tree, h.stands.tree, m.stands.tree) at v);
      }

  pub both_stay : (t u x : Term) → t ≡ get_or p i no_term → u ≡ get_or q j no_term → TakesBoth table p q i j
      → x.monomial ≡ t.monomial
      → w.meaning x.value ≡ rational.plus (w.meaning t.value) (w.meaning u.value) → w.meaning x.value ≢ rational.nil
      → Stands a s x.tree (tree_of a.trees x.tree) → tree_of a.trees x.tree ≡ w.term s (monomial_at s keys t) x.value
      → Stands b s x.sum (sum_tree s (tree_of a.trees d) (tree_of a.trees x.tree))
      → Proves b k (sum_tree s (sum_tree s (tree_of a.trees (sum_at z p i)) (tree_of a.trees t.tree)) (sum_tree s (tree_of a.trees (sum_at z q j)) (tree_of a.trees u.tree))) (sum_tree s (tree_of a.trees d) (tree_of a.trees x.tree))
      → IsMerging w b s keys table z p q (done ++ x ∷ []) (i + 1) (j + 1) x.sum k
  both_stay t u x y v tk mono value nonzero tree term sum line =
      let l : i < length p = tk.left_more in
      let r : j < length q = tk.right_more in
      let mt : IsTermOf w a s keys table t = rw y (h.left.terms i l) in
      let mu : IsTermOf w a s keys table u = rw v (h.right.terms j r) in
      let own : tree_of a.trees x.tree ≡ term_tree w s keys x = term ∙ ap (λ m. w.term s (get_or keys m (Lit s 0)) x.value) (sym mono) in
      let o : IsTermOf w b s keys table x = record { known = rw mono mt.known; stands = grows-stands a b g s _ _ (rw own at tree) } in
      let f : Stands b s x.sum (sum_of w s keys (done ++ x ∷ [])) = rw sum_of-push (rw (own, h.stands.tree) at sum) in
      record {
        keys_stand = keys_grow w s keys table z a b g h.keys_stand;
        left = sum_grows w s keys table z a b g p h.left;
        right = sum_grows w s keys table z a b g q h.right;
        left_in = omega arith;
        right_in = omega arith;
        done_sum = sum_push w s keys table z b done x (sum_grows w s keys table z a b g done h.done_sum) o f;
        stands = f;
        merged = merged_both w.meaning table p q done i j h.merged tk x (mono ∙ ap (λ (o : Term). o.monomial) y) (value ∙ (λ o. rational.plus (w.meaning (y o).value) (w.meaning (v o).value))) nonzero;
        line = rw (sum_of-push, add-one, add-one, sum_of-take w s keys p i l, sum_of-take w s keys q j r, ← y, ← v) (rw (own, left_tree, right_tree, h.stands.tree, mt.stands.tree, mu.stands.tree) at line);
      }

  pub none_stays : (t u : Term) → t ≡ get_or p i no_term → u ≡ get_or q j no_term → TakesBoth table p q i j → rational.plus (w.meaning t.value) (w.meaning u.value) ≡ rational.nil
      → Proves b k (sum_tree s (sum_tree s (tree_of a.trees (sum_at z p i)) (tree_of a.trees t.tree)) (sum_tree s (tree_of a.trees (sum_at z q j)) (tree_of a.trees u.tree))) (tree_of a.trees d)
      → IsMerging w b s keys table z p q done (i + 1) (j + 1) d k
  none_stays t u y v tk value line =
      let l : i < length p = tk.left_more in
      let r : j < length q = tk.right_more in
      let mt : IsTermOf w a s keys table t = rw y (h.left.terms i l) in
      let mu : IsTermOf w a s keys table u = rw v (h.right.terms j r) in
      record {
        keys_stand = keys_grow w s keys table z a b g h.keys_stand;
        left = sum_grows w s keys table z a b g p h.left;
        right = sum_grows w s keys table z a b g q h.right;
        left_in = omega arith;
        right_in = omega arith;
        done_sum = sum_grows w s keys table z a b g done h.done_sum;
        stands = grows-stands a b g s _ _ h.stands;
        merged = merged_none w.meaning table p q done i j h.merged tk ((λ o. rational.plus (w.meaning (sym y o).value) (w.meaning (sym v o).value)) ∙ value);
        line = rw (add-one, add-one, sum_of-take w s keys p i l, sum_of-take w s keys q j r, ← y, ← v) (rw (left_tree, right_tree, h.stands.tree, mt.stands.tree, mu.stands.tree) at line);
      }

-- the next terms of both, of one monomial

module _ (w : Writing) (s : Sort) (keys : List Tree) (table : List Monomial) (z : ExprId) (a : Book) (p q done : List Term) (i j : ℕ) (d : ExprId) (n : ℕ) (h : IsMerging w a s keys table z p q done i j d n) (tk : TakesBoth table p q i j) where
  pub own_monomial : tree_of a.trees (get_or table (get_or p i no_term).monomial no_monomial).tree ≡ monomial_at s keys (get_or p i no_term)
  own_monomial = (h.keys_stand.each (get_or p i no_term).monomial (h.left.terms i tk.left_more).known).tree

  same_monomial : monomial_at s keys (get_or p i no_term) ≡ monomial_at s keys (get_or q j no_term)
  same_monomial = h.keys_stand.one (get_or p i no_term).monomial (get_or q j no_term).monomial (h.left.terms i tk.left_more).known (h.right.terms j tk.right_more).known tk.same

  left_term : (c : Book) → Grows a c → w.term s (tree_of a.trees (get_or table (get_or p i no_term).monomial no_monomial).tree) (get_or p i no_term).value ≡ tree_of c.trees (get_or p i no_term).tree
  left_term c g = ap (λ t. w.term s t (get_or p i no_term).value) own_monomial ∙ sym (grows-stands a c g s _ _ (h.left.terms i tk.left_more).stands).tree

  right_term : (c : Book) → Grows a c → w.term s (tree_of a.trees (get_or table (get_or p i no_term).monomial no_monomial).tree) (get_or q j no_term).value ≡ tree_of c.trees (get_or q j no_term).tree
  right_term c g = ap (λ t. w.term s t (get_or q j no_term).value) (own_monomial ∙ same_monomial) ∙ sym (grows-stands a c g s _ _ (h.right.terms j tk.right_more).stands).tree

  -- the sum that is collected
  pub collected_sum : (c : Book) → Grows a c → sum_tree s (w.term s (tree_of a.trees (get_or table (get_or p i no_term).monomial no_monomial).tree) (get_or p i no_term).value) (w.term s (tree_of a.trees (get_or table (get_or p i no_term).monomial no_monomial).tree) (get_or q j no_term).value) ≡ sum_tree s (tree_of c.trees (get_or p i no_term).tree) (tree_of c.trees (get_or q j no_term).tree)
  collected_sum c g = ap₂ (sum_tree s) (left_term c g) (right_term c g)

pub merging_grows : (w : Writing) (s : Sort) (keys : List Tree) (table : List Monomial) (z : ExprId) (a b : Book) → Grows a b → (p q done : List Term) (i j : ℕ) (d : ExprId) (n : ℕ) → IsMerging w a s keys table z p q done i j d n → IsMerging w b s keys table z p q done i j d n
merging_grows w s keys table z a b g p q done i j d n h = record {
  keys_stand = keys_grow w s keys table z a b g h.keys_stand;
  left = sum_grows w s keys table z a b g p h.left;
  right = sum_grows w s keys table z a b g q h.right;
  left_in = h.left_in;
  right_in = h.right_in;
  done_sum = sum_grows w s keys table z a b g done h.done_sum;
  merged = h.merged;
  stands = grows-stands a b g s _ _ h.stands;
  line = grows-proves a b n _ _ g h.line;
}

pub are_grow : (w : Writing) (s : Sort) (table : List Monomial) (a b : Book) → Grows a b → (z : ExprId) (p q done : List Term) (i j : ℕ) (d : ExprId) (n : ℕ) → AreMerging w a s table z p q done i j d n → AreMerging w b s table z p q done i j d n
are_grow w s table a b g z p q done i j d n h = record { keys = h.keys; merging = merging_grows w s h.keys table z a b g p q done i j d n h.merging }

-- all is merged
pub all_merged : (w : Writing) (s : Sort) (keys : List Tree) (table : List Monomial) (z : ExprId) (b : Book) (p q done : List Term) (i j : ℕ) (d : ExprId) (n : ℕ) → length p ≤ i → length q ≤ j → IsMerging w b s keys table z p q done i j d n → IsSumOf w b s keys table z p q done d n
all_merged w s keys table z b p q done i j d n l r h =
    let ep : take i p ≡ p = take-whole p i (omega (arith, l, h.left_in)) in
    let eq : take j q ≡ q = take-whole q j (omega (arith, r, h.right_in)) in
    record {
      sum = h.done_sum;
      stands = h.stands;
      map = merged_terms w.meaning table p q done i j l r h.merged;
      line = rw (ep, eq) at h.line;
    }

pub begun_left : (w : Writing) (s : Sort) (keys : List Tree) (table : List Monomial) (z : ExprId) (a b : Book) → Grows a b → (p q : List Term) (n i : ℕ) → i ≤ length p → ComeBefore table p q i → BothSums w a s keys table z p q
    → Proves b n (sum_tree s (tree_of a.trees (sum_at z p i)) (Lit s 0)) (tree_of a.trees (sum_at z p i)) → IsMerging w b s keys table z p q (take i p) i 0 (sum_at z p i) n
begun_left w s keys table z a b g p q n i l c h line =
    let here : Stands a s (sum_at z p i) (sum_of w s keys (take i p)) = h.left.sums i l in
    record {
      keys_stand = keys_grow w s keys table z a b g h.keys_stand;
      left = sum_grows w s keys table z a b g p h.left;
      right = sum_grows w s keys table z a b g q h.right;
      left_in = l;
      right_in = omega arith;
      done_sum = sum_grows w s keys table z a b g (take i p) (prefix_sum w s keys table z a p i l h.left);
      stands = grows-stands a b g s _ _ here;
      merged = merged_first_left w.meaning table p q i l h.left_normal h.right_normal c;
      line = rw (nothing-of w s keys) (rw here.tree at line);
    }

pub begun_right : (w : Writing) (s : Sort) (keys : List Tree) (table : List Monomial) (z : ExprId) (a b : Book) → Grows a b → (p q : List Term) (n i : ℕ) → i ≤ length q → ComeBefore table q p i → BothSums w a s keys table z p q
    → Proves b n (sum_tree s (Lit s 0) (tree_of a.trees (sum_at z q i))) (tree_of a.trees (sum_at z q i)) → IsMerging w b s keys table z p q (take i q) 0 i (sum_at z q i) n
begun_right w s keys table z a b g p q n i l c h line =
    let here : Stands a s (sum_at z q i) (sum_of w s keys (take i q)) = h.right.sums i l in
    record {
      keys_stand = keys_grow w s keys table z a b g h.keys_stand;
      left = sum_grows w s keys table z a b g p h.left;
      right = sum_grows w s keys table z a b g q h.right;
      left_in = omega arith;
      right_in = l;
      done_sum = sum_grows w s keys table z a b g (take i q) (prefix_sum w s keys table z a q i l h.right);
      stands = grows-stands a b g s _ _ here;
      merged = merged_first_right w.meaning table p q i l h.left_normal h.right_normal c;
      line = rw (nothing-of w s keys) (rw here.tree at line);
    }
