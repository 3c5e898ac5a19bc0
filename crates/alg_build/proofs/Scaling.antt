-- Back from an equation whose sides were multiplied.
use Rattle.std.proofs.Common.{◌≡◌, ℕ, List, [], ◌∷◌, refl, ap, sym, ◌∙◌, subst, arith, Ok, Err, Some, true, All}
use Rattle.std.specs.Prelude.{Result, IfOk, OnErr}
use Rattle.std.proofs.lemmas.List.Elements.{All-push}
use Rattle.alg_terms.specs.declared.sorts.Sort.{Sort}
use Rattle.alg_terms.specs.declared.symbols.Sym.TheVariants.{Mul, Inv}
use Rattle.alg_terms.specs.Tree.{Tree, App, Cons, Nil, of_list, Statement, equal, sort_of_tree, product_tree}
use Rattle.alg_expr.specs.declared.ids.ExprId.{ExprId}
use Rattle.alg_expr.specs.declared.ids.Stmt.{Stmt}
use Rattle.alg_expr.specs.declared.memory.Memory.{Memory}
use Rattle.alg_expr.specs.Ids.{tree_of, trees_at, statement_of}
use Rattle.alg_expr.specs.Applying.{sorts_fit}
use Rattle.alg_expr.proofs.ArenaLaws.{IsIn-extends, tree_of-extends}
use Rattle.alg_law.specs.declared.marks.Mark.TheVariants.{Good}
use Rattle.alg_law.specs.Declarations.{Declaration}
use Rattle.alg_law.specs.Derivations.{related}
use Rattle.alg_law.specs.WellSorted.{IsWellSorted, IsStatement, head_mark, mark_of, marks_of, sorts_of}
use Rattle.alg_law.proofs.WellSortedLaws.{worse-parts}
use Rattle.alg_proof.specs.Steps.{Step}
use Rattle.alg_build.specs.Backs.{Rewrites, Scales, MayScale, inverse_tree}
use Rattle.alg_build.specs.Book.{Book, Grows, KeepsLines, Makes, Adds, Concludes, Proves, IsThere, IsEquation, fact, left_at, right_at, lefts_at, rights_at}
use Rattle.alg_build.proofs.Fitting.{fits}
use Rattle.alg_build.proofs.Leading.{replaced_there, replaced_left, replaced_right, replaced_left_same, replaced_right_same, replaced_is}
use Rattle.alg_build.proofs.Lines.{adds-concludes, adds-grows, adds-proves, makes-grows, keeps-grows, grows-proves, grows-then, proves-equation, proves-fact, proves-left, proves-right}

nothing_in : {A : Type 0} (P : A → Type 0) → All P []
nothing_in P = λ k d l. absurd (omega (arith, l))

some-same : (s t : Sort) → Some s ≡ Some t → s ≡ t
some-same s t e = cc

module _ (a : Book) (line : ℕ) (by : ExprId) (s : Sort) (x y : Tree) (g : MayScale a line by s x y) where
  abbrev m : Tree
  m = tree_of a.trees by

  abbrev inv : Tree
  inv = inverse_tree s m

  abbrev ds : List Declaration
  ds = a.theory.declarations

  head : head_mark ds Mul s (sort_of_tree x ∷ sort_of_tree inv ∷ []) ≡ Good
  head = (worse-parts (head_mark ds Mul s (sort_of_tree x ∷ sort_of_tree inv ∷ [])) (marks_of ds (Cons x (Cons inv Nil))) g.sorted).0

  inverse_good : IsWellSorted ds inv
  inverse_good =
      let p = worse-parts (head_mark ds Mul s (sort_of_tree x ∷ sort_of_tree inv ∷ [])) (marks_of ds (Cons x (Cons inv Nil))) g.sorted in
      let q = worse-parts (mark_of ds x) (marks_of ds (Cons inv Nil)) p.1 in
      (worse-parts (mark_of ds inv) (marks_of ds Nil) q.1).0

  sort_x : sort_of_tree x ≡ s
  sort_x = some-same (sort_of_tree x) s (fits ds Mul s (sort_of_tree x ∷ sort_of_tree inv ∷ []) head).value

  inverse_head : head_mark ds Inv s (sort_of_tree m ∷ []) ≡ Good
  inverse_head = (worse-parts (head_mark ds Inv s (sort_of_tree m ∷ [])) (marks_of ds (Cons m Nil)) inverse_good).0

  scale_sort : (st : Stmt) → statement_of a.trees st ≡ fact a line → st.sort ≡ s
  scale_sort st e = ap (λ (o : Statement). o.sort) e ∙ ap (λ (o : Statement). o.sort) (proves-fact a line x y g.proves) ∙ sort_x

  pub scale_fits : (st : Stmt) → statement_of a.trees st ≡ fact a line → sorts_fit Inv st.sort (sort_of_tree m ∷ []) ≡ true
  scale_fits st e = subst (λ (t : Sort). sorts_fit Inv t (sort_of_tree m ∷ []) ≡ true) (sym (scale_sort st e)) (fits ds Inv s (sort_of_tree m ∷ []) inverse_head).sorts

  module _ (b : Book) (e : ExprId) (st : Stmt) (is : statement_of a.trees st ≡ fact a line) (made : Makes a b e (App Inv st.sort (of_list (trees_at a.trees (by ∷ []))))) where
    inverse_is : tree_of b.trees e ≡ inv
    inverse_is = made.tree ∙ (λ i. App Inv (scale_sort st is i) (Cons m Nil))

    pub scale_sorted : IsWellSorted b.theory.declarations (tree_of b.trees e)
    scale_sorted = rw (made.keeps.theory, inverse_is) inverse_good

    module _ (c : Book) (n : ℕ) (l : Step) (two : Adds b c n l (equal (tree_of b.trees e) (tree_of b.trees e))) where
      grown : Grows a c
      grown = grows-then a b c (makes-grows a b e _ made) (adds-grows b c n l _ two)

      first : Proves c line x y
      first = grows-proves a c line x y grown g.proves

      second : Proves c n inv inv
      second = rw inverse_is at (adds-proves b c n l (tree_of b.trees e) (tree_of b.trees e) two)

      pub scale_equations : All (IsEquation c) (line ∷ n ∷ [])
      scale_equations = All-push (IsEquation c) (line ∷ []) n (All-push (IsEquation c) [] line (nothing_in (IsEquation c)) (proves-equation c line x y first)) (proves-equation c n inv inv second)

      heads : head_mark c.theory.declarations Mul s (sorts_of (lefts_at c (line ∷ n ∷ []))) ≡ Good
      heads = (λ i. head_mark (grown.theory i).declarations Mul s (sort_of_tree (proves-left c line x y first i) ∷ sort_of_tree (proves-left c n inv inv second i) ∷ [])) ∙ head

      pub scale_head : (t : Sort) × (head_mark c.theory.declarations Mul t (sorts_of (lefts_at c (line ∷ n ∷ []))) ≡ Good)
      scale_head = (s, heads)

      sides : equal (App Mul s (lefts_at c (line ∷ n ∷ []))) (App Mul s (rights_at c (line ∷ n ∷ []))) ≡ equal (product_tree s x inv) (product_tree s y inv)
      sides = λ i. equal (App Mul s (Cons (proves-left c line x y first i) (Cons (proves-left c n inv inv second i) Nil))) (App Mul s (Cons (proves-right c line x y first i) (Cons (proves-right c n inv inv second i) Nil)))

      scale_ends : (d : Book) (k : ℕ) (u : Step) → Adds c d k u (equal (App Mul s (lefts_at c (line ∷ n ∷ []))) (App Mul s (rights_at c (line ∷ n ∷ [])))) → Proves d k (product_tree s x inv) (product_tree s y inv)
      scale_ends d k u p = adds-proves c d k u (product_tree s x inv) (product_tree s y inv) (subst (λ (v : Statement). Adds c d k u v) sides p)

      pub scale_grows : (d : Book) (u : Step) (r : Result ℕ Memory)
          → IfOk r (λ k. (t : Sort) → head_mark c.theory.declarations Mul t (sorts_of (lefts_at c (line ∷ n ∷ []))) ≡ Good → Adds c d k u (equal (App Mul t (lefts_at c (line ∷ n ∷ []))) (App Mul t (rights_at c (line ∷ n ∷ [])))))
          → OnErr r (KeepsLines c d) → Grows a d
      scale_grows d u (Ok k) p q = grows-then a c d grown (adds-grows c d k u _ (p s heads))
      scale_grows d u (Err z) p q = grows-then a c d grown (keeps-grows c d q)

-- whatever the sides are
pub scale_proves : (a b c d : Book) (line : ℕ) (by e : ExprId) (st : Stmt) (n : ℕ) (l u : Step) (r : Result ℕ Memory) → statement_of a.trees st ≡ fact a line → Makes a b e (App Inv st.sort (of_list (trees_at a.trees (by ∷ []))))
    → Adds b c n l (equal (tree_of b.trees e) (tree_of b.trees e))
    → IfOk r (λ k. (t : Sort) → head_mark c.theory.declarations Mul t (sorts_of (lefts_at c (line ∷ n ∷ []))) ≡ Good → Adds c d k u (equal (App Mul t (lefts_at c (line ∷ n ∷ []))) (App Mul t (rights_at c (line ∷ n ∷ [])))))
    → IfOk r (λ k. (s : Sort) (x y : Tree) → MayScale a line by s x y → Proves d k (product_tree s x (inverse_tree s (tree_of a.trees by))) (product_tree s y (inverse_tree s (tree_of a.trees by))))
scale_proves a b c d line by e st n l u (Err z) is made two p = tt
scale_proves a b c d line by e st n l u (Ok k) is made two p = λ s x y g. scale_ends a line by s x y g b e st is made c n l two d k u (p s (heads a line by s x y g b e st is made c n l two))

-- the whole way back

module _ (a : Book) (by : ExprId) (i j k l line : ℕ) (s t : Statement) (r : Scales a by i j k l s t) (last : Concludes a line t) where
  abbrev times : Tree → Tree
  times x = product_tree s.sort x (tree_of a.trees by)

  abbrev over : Tree → Tree
  over x = product_tree s.sort (times x) (inverse_tree s.sort (tree_of a.trees by))

  pub back_there : IsThere a k
  back_there = rw r.back_left.line refl

  pub products_rewrite : Rewrites a i j (equal (times s.lhs) (times s.rhs)) t
  products_rewrite = record { rel = r.new_rel; sort = r.sort; left = r.left; right = r.right }

  module _ (b : Book) (n : ℕ) (up : Grows a b) (products : Concludes b n (equal (times s.lhs) (times s.rhs))) (fine : IsStatement a.theory.declarations (fact a k)) where
    same_tree : tree_of b.trees by ≡ tree_of a.trees by
    same_tree = tree_of-extends a.trees b.trees by up.trees r.here

    sorted : IsWellSorted a.theory.declarations (over s.lhs)
    sorted = subst (λ (x : Statement). IsWellSorted a.theory.declarations x.lhs) (proves-fact a k (over s.lhs) s.lhs r.back_left) fine.left

    pub may_scale : MayScale b n by s.sort (times s.lhs) (times s.rhs)
    may_scale = record {
      here = IsIn-extends a.trees b.trees by up.trees r.here;
      proves = record { line = products.line };
      sorted = rw (up.theory, same_tree) sorted;
    }

    module _ (c : Book) (o : ℕ) (further : Grows b c) (p : Proves c o (product_tree s.sort (times s.lhs) (inverse_tree s.sort (tree_of b.trees by))) (product_tree s.sort (times s.rhs) (inverse_tree s.sort (tree_of b.trees by)))) where
      whole : Grows a c
      whole = grows-then a b c up further

      scaled : Concludes c o (equal (over s.lhs) (over s.rhs))
      scaled = record { line = (rw same_tree at p).line }

      left_back : Proves c k (over s.lhs) s.lhs
      left_back = grows-proves a c k _ _ whole r.back_left

      right_back : Proves c l (over s.rhs) s.rhs
      right_back = grows-proves a c l _ _ whole r.back_right

      pub scaled_there : IsThere c o
      scaled_there = replaced_there c o k l s _ scaled left_back right_back

      pub scaled_left : IsEquation c k
      scaled_left = replaced_left c o k l s _ scaled left_back right_back

      pub scaled_right : IsEquation c l
      scaled_right = replaced_right c o k l s _ scaled left_back right_back

      pub scaled_left_same : left_at c k ≡ left_at c o
      scaled_left_same = replaced_left_same c o k l s _ scaled left_back right_back

      pub scaled_right_same : left_at c l ≡ right_at c o
      scaled_right_same = replaced_right_same c o k l s _ scaled left_back right_back

      scaled_ends : (d : Book) (x : ℕ) (u : Step) → Adds c d x u (related (fact c o).rel (fact c o).sort (right_at c k) (right_at c l)) → Concludes d x s
      scaled_ends d x u q = adds-concludes c d x u s (subst (λ (v : Statement). Adds c d x u v) (replaced_is c o k l s _ scaled left_back right_back (sym r.old_rel) refl) q)

-- whatever the statements are
pub scaled_concludes : (a b c d : Book) (by : ExprId) (i j k l line n o : ℕ) (u : Step) (r : Result ℕ Memory) → Grows a b → Grows b c → IsStatement a.theory.declarations (fact a k)
    → ((s t : Statement) → Rewrites a i j s t → Concludes a line t → Concludes b n s)
    → ((s : Sort) (x y : Tree) → MayScale b n by s x y → Proves c o (product_tree s x (inverse_tree s (tree_of b.trees by))) (product_tree s y (inverse_tree s (tree_of b.trees by))))
    → IfOk r (λ x. Adds c d x u (related (fact c o).rel (fact c o).sort (right_at c k) (right_at c l))) → IfOk r (λ x. (s t : Statement) → Scales a by i j k l s t → Concludes a line t → Concludes d x s)
scaled_concludes a b c d by i j k l line n o u (Err z) up further fine h g p = tt
scaled_concludes a b c d by i j k l line n o u (Ok x) up further fine h g p =
    λ s t w last.
    let q = h _ t (products_rewrite a by i j k l line s t w last) last in
    scaled_ends a by i j k l line s t w last b n up q fine c o further (g s.sort _ _ (may_scale a by i j k l line s t w last b n up q fine)) d x u p
