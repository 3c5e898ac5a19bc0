-- The equation of a symbol over the left sides of lines with the same symbol over their right sides.
use Rattle.std.proofs.Common.{◌≡◌, ℕ, ◌+◌, ◌<◌, List, [], ◌∷◌, ◌++◌, length, get_or, take, refl, ap, sym, ◌∙◌, subst, arith, add-one, All, Ok, Err, Some, None, true}
use Rattle.std.specs.Prelude.{Result, IfOk}
use Rattle.std.proofs.lemmas.List.{map-append, length-map}
use Rattle.std.proofs.lemmas.List.Elements.{All-head, All-tail, All-push}
use Rattle.std.proofs.Math.Seq.{take-suc}
use Rattle.alg_terms.specs.declared.sorts.Sort.{Sort}
use Rattle.alg_terms.specs.declared.symbols.Sym.{Sym}
use Rattle.alg_terms.specs.Tree.{Tree, App, of_list, Statement, equal, sort_of_tree}
use Rattle.alg_expr.specs.declared.ids.ExprId.{ExprId}
use Rattle.alg_expr.specs.declared.ids.Stmt.{Stmt}
use Rattle.alg_expr.specs.declared.memory.Memory.{Memory}
use Rattle.alg_expr.specs.Ids.{tree_of, trees_at, IsIn, statement_of, IsStatementIn}
use Rattle.alg_expr.specs.Applying.{arity_fits, sorts_fit, sorts_at}
use Rattle.alg_expr.specs.Arena.{Extends}
use Rattle.alg_expr.proofs.ArenaLaws.{IsIn-extends, tree_of-extends}
use Rattle.alg_law.specs.declared.marks.Mark.TheVariants.{Good}
use Rattle.alg_law.specs.Declarations.{Declaration}
use Rattle.alg_law.specs.WellSorted.{IsStatement, head_mark, sorts_of}
use Rattle.alg_proof.specs.Steps.{Cong, conclude, value_sort}
use Rattle.alg_build.specs.Book.{Book, KeepsLines, Makes, Adds, IsThere, IsEquation, fact, left_at, right_at, lefts_at, rights_at}
use Rattle.alg_build.specs.Good.{MayConclude}
use Rattle.alg_build.specs.Sides.{AreSides}
use Rattle.alg_build.proofs.Concluding.{adds_after}
use Rattle.alg_build.proofs.Fitting.{fits, cong_good}
use Rattle.alg_build.proofs.Growing.{trees_at-extends}

-- the sides of lines, one line after another

pub part_there : (b : Book) (is : List ℕ) (i d : ℕ) → All (IsEquation b) is → i < length is → IsThere b (get_or is i d)
part_there b is i d h l = rw (h i d l).line refl

pub sides_none : (b : Book) → AreSides b [] [] []
sides_none b = record {
  lefts_in = λ k d l. absurd (omega (arith, l));
  rights_in = λ k d l. absurd (omega (arith, l));
  lefts = refl;
  rights = refl;
  even = refl;
}

pub sides_next : (b : Book) (is : List ℕ) (i d : ℕ) (ls rs : List ExprId) (s : Stmt) → i < length is → AreSides b (take i is) ls rs → IsStatementIn b.trees s → statement_of b.trees s ≡ fact b (get_or is i d)
    → IsStatement b.theory.declarations (fact b (get_or is i d)) → AreSides b (take (i + 1) is) (ls ++ s.lhs ∷ []) (rs ++ s.rhs ∷ [])
sides_next b is i d ls rs s l h here e fine =
    let sort : sort_of_tree (tree_of b.trees s.rhs) ≡ sort_of_tree (tree_of b.trees s.lhs) = ap (λ (x : Statement). sort_of_tree x.rhs) e ∙ fine.right_sort ∙ sym fine.left_sort ∙ sym (ap (λ (x : Statement). sort_of_tree x.lhs) e) in
    rw (add-one, take-suc is i d l)
    (record {
      lefts_in = All-push (IsIn b.trees) ls s.lhs h.lefts_in here.0;
      rights_in = All-push (IsIn b.trees) rs s.rhs h.rights_in here.1;
      lefts = map-append (tree_of b.trees) ls (s.lhs ∷ []) ∙ (λ k. h.lefts k ++ (e k).lhs ∷ []) ∙ sym (map-append (left_at b) (take i is) (get_or is i d ∷ []));
      rights = map-append (tree_of b.trees) rs (s.rhs ∷ []) ∙ (λ k. h.rights k ++ (e k).rhs ∷ []) ∙ sym (map-append (right_at b) (take i is) (get_or is i d ∷ []));
      even = map-append (λ e. sort_of_tree (tree_of b.trees e)) rs (s.rhs ∷ []) ∙ (λ k. h.even k ++ sort k ∷ []) ∙ sym (map-append (λ e. sort_of_tree (tree_of b.trees e)) ls (s.lhs ∷ []));
    })

pub sides_same : (b : Book) (is : List ℕ) (ls rs es fs : List ExprId) → AreSides b is ls rs → es ≡ ls → fs ≡ rs → AreSides b is es fs
sides_same b is ls rs es fs h p q = rw (p, q) h

-- the sort of a symbol over arguments that fit is the only one

some-same : (s t : Sort) → Some s ≡ Some t → s ≡ t
some-same s t e = cc

pub no_sort : (ds : List Declaration) (f : Sym) (ts : List Sort) → (s : Sort) × (head_mark ds f s ts ≡ Good) → None ≡ value_sort ds f ts → ⊥
no_sort ds f ts p e =
    let g : None ≡ Some p.0 = e ∙ (fits ds f p.0 ts p.1).value in
    cc

pub only_sort : (ds : List Declaration) (f : Sym) (ts : List Sort) (t : Sort) → Some t ≡ value_sort ds f ts → (s : Sort) → head_mark ds f s ts ≡ Good → t ≡ s
only_sort ds f ts t e s g = some-same t s (e ∙ (fits ds f s ts g).value)

-- a symbol over ids

pub over_arity : (ds : List Declaration) (ts : List Tree) (f : Sym) (s : Sort) (es : List ExprId) → head_mark ds f s (sorts_at ts es) ≡ Good → arity_fits f (length es) ≡ true
over_arity ds ts f s es g = subst (λ n. arity_fits f n ≡ true) (length-map es (λ e. sort_of_tree (tree_of ts e))) (fits ds f s (sorts_at ts es) g).arity

pub over_sorts : (ds : List Declaration) (ts : List Tree) (f : Sym) (s : Sort) (es : List ExprId) → head_mark ds f s (sorts_at ts es) ≡ Good → sorts_fit f s (sorts_at ts es) ≡ true
over_sorts ds ts f s es g = (fits ds f s (sorts_at ts es) g).sorts

sorts_at-extends : (ts us : List Tree) (es : List ExprId) → Extends ts us → All (IsIn ts) es → sorts_at us es ≡ sorts_at ts es
sorts_at-extends ts us [] x h = refl
sorts_at-extends ts us (e ∷ es) x h =
    let a : tree_of us e ≡ tree_of ts e = tree_of-extends ts us e x (All-head (IsIn ts) e es h) in
    let b : sorts_at us es ≡ sorts_at ts es = sorts_at-extends ts us es x (All-tail (IsIn ts) e es h) in
    λ i. sort_of_tree (a i) ∷ b i

module _ (a b : Book) (f : Sym) (s : Sort) (ls rs : List ExprId) (l : ExprId) (h : All (IsIn a.trees) rs) (p : Makes a b l (App f s (of_list (trees_at a.trees ls)))) where
  pub right_in : All (IsIn b.trees) rs
  right_in = λ k d m. IsIn-extends a.trees b.trees _ p.keeps.trees (h k d m)

  module _ (even : sorts_at a.trees rs ≡ sorts_at a.trees ls) (g : head_mark a.theory.declarations f s (sorts_at a.trees ls) ≡ Good) where
    right_head : head_mark a.theory.declarations f s (sorts_at a.trees rs) ≡ Good
    right_head = ap (head_mark a.theory.declarations f s) even ∙ g

    pub right_arity : arity_fits f (length rs) ≡ true
    right_arity = over_arity a.theory.declarations a.trees f s rs right_head

    pub right_sorts : sorts_fit f s (sorts_at b.trees rs) ≡ true
    right_sorts = rw (sorts_at-extends a.trees b.trees rs p.keeps.trees h) (over_sorts a.theory.declarations a.trees f s rs right_head)

  pub over_equation : (c : Book) (r : ExprId) (t : Stmt) → Makes b c r (App f s (of_list (trees_at b.trees rs))) → statement_of c.trees t ≡ equal (tree_of c.trees l) (tree_of c.trees r)
      → statement_of c.trees t ≡ equal (App f s (of_list (trees_at a.trees ls))) (App f s (of_list (trees_at a.trees rs)))
  over_equation c r t q e =
      let left : tree_of c.trees l ≡ App f s (of_list (trees_at a.trees ls)) = tree_of-extends b.trees c.trees l q.keeps.trees p.here ∙ p.tree in
      let right : tree_of c.trees r ≡ App f s (of_list (trees_at a.trees rs)) = q.tree ∙ ap (λ ts. App f s (of_list ts)) (trees_at-extends a.trees b.trees rs p.keeps.trees h) in
      e ∙ (λ i. equal (left i) (right i))

-- a symbol over the sides of lines

sorts_of-trees : (ts : List Tree) (es : List ExprId) → sorts_of (of_list (trees_at ts es)) ≡ sorts_at ts es
sorts_of-trees ts [] = refl
sorts_of-trees ts (e ∷ es) = ap (λ ss. sort_of_tree (tree_of ts e) ∷ ss) (sorts_of-trees ts es)

module _ (b : Book) (is : List ℕ) (ls rs : List ExprId) (h : AreSides b is ls rs) (f : Sym) where
  left_sorts : sorts_at b.trees ls ≡ sorts_of (lefts_at b is)
  left_sorts = sym (sorts_of-trees b.trees ls) ∙ ap (λ ts. sorts_of (of_list ts)) h.lefts

  left_head : (s : Sort) → head_mark b.theory.declarations f s (sorts_of (lefts_at b is)) ≡ Good → head_mark b.theory.declarations f s (sorts_at b.trees ls) ≡ Good
  left_head s g = ap (head_mark b.theory.declarations f s) left_sorts ∙ g

  pub some_head : (s : Sort) × (head_mark b.theory.declarations f s (sorts_of (lefts_at b is)) ≡ Good) → (s : Sort) × (head_mark b.theory.declarations f s (sorts_at b.trees ls) ≡ Good)
  some_head p = (p.0, left_head p.0 p.1)

  module _ (t : Sort) (only : (s : Sort) → head_mark b.theory.declarations f s (sorts_at b.trees ls) ≡ Good → t ≡ s) where
    pub its_head : (s : Sort) × (head_mark b.theory.declarations f s (sorts_of (lefts_at b is)) ≡ Good) → head_mark b.theory.declarations f t (sorts_at b.trees ls) ≡ Good
    its_head p = subst (λ (s : Sort). head_mark b.theory.declarations f s (sorts_at b.trees ls) ≡ Good) (sym (only p.0 (left_head p.0 p.1))) (left_head p.0 p.1)

    pub sides_equation : (c : Book) (r : Result Stmt Memory) → IfOk r (λ x. statement_of c.trees x ≡ equal (App f t (of_list (trees_at b.trees ls))) (App f t (of_list (trees_at b.trees rs))))
        → IfOk r (λ x. (s : Sort) → head_mark b.theory.declarations f s (sorts_of (lefts_at b is)) ≡ Good → statement_of c.trees x ≡ equal (App f s (lefts_at b is)) (App f s (rights_at b is)))
    sides_equation c (Err m) p = tt
    sides_equation c (Ok x) p = λ s g. p ∙ (λ i. equal (App f (only s (left_head s g) i) (of_list (h.lefts i))) (App f (only s (left_head s g) i) (of_list (h.rights i))))

-- the line of a congruence, after new trees

module _ (a b : Book) (f : Sym) (is ns : List ℕ) (t : Statement) (e : ns ≡ is) (k : KeepsLines a b) (q : (s : Sort) → head_mark a.theory.declarations f s (sorts_of (lefts_at a is)) ≡ Good → t ≡ equal (App f s (lefts_at a is)) (App f s (rights_at a is))) where
  pub cong_leads : All (IsEquation a) is → (s : Sort) × (head_mark a.theory.declarations f s (sorts_of (lefts_at a is)) ≡ Good) → MayConclude b (Cong f ns) t
  cong_leads h p = (λ i. conclude (k.theory i) (k.done i) (Cong f (e i))) ∙ cong_good a f p.0 is h p.1 ∙ ap Ok (sym (q p.0 p.1))

  pub cong_adds : (c : Book) (r : Result ℕ Memory) → IfOk r (λ n. Adds b c n (Cong f ns) t)
      → IfOk r (λ n. (s : Sort) → head_mark a.theory.declarations f s (sorts_of (lefts_at a is)) ≡ Good → Adds a c n (Cong f is) (equal (App f s (lefts_at a is)) (App f s (rights_at a is))))
  cong_adds c (Err m) p = tt
  cong_adds c (Ok n) p = λ s g. adds_after a b c n (Cong f is) t (equal (App f s (lefts_at a is)) (App f s (rights_at a is))) k (subst (λ (x : List ℕ). Adds b c n (Cong f x) t) e p) (q s g)
