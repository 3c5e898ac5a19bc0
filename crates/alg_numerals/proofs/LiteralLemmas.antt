-- Literals and negated literals as the book grows, and the trees that lines on them are about.
use Rattle.std.proofs.Common.{◌≡◌, ℕ, List, [], ◌∷◌, refl, ap, ◌∙◌, true}
use Rattle.alg_terms.specs.declared.sorts.Sort.{Sort}
use Rattle.alg_terms.specs.declared.symbols.Sym.{Sym}
use Rattle.alg_terms.specs.declared.symbols.Sym.TheVariants.{Neg}
use Rattle.alg_terms.specs.Tree.{Tree, App, Cons, Nil, of_list, Lit, equal, sort_of_tree}
use Rattle.alg_terms.proofs.OrderLaws.{sort_same-self}
use Rattle.alg_expr.specs.declared.ids.ExprId.{ExprId}
use Rattle.alg_expr.specs.Ids.{tree_of, trees_at}
use Rattle.alg_law.specs.declared.classes.Class.TheVariants.{AddGroup}
use Rattle.alg_law.specs.declared.marks.Mark.TheVariants.{Good}
use Rattle.alg_law.specs.Declarations.{Declaration}
use Rattle.alg_law.specs.Having.{has_class}
use Rattle.alg_law.specs.WellSorted.{IsWellSorted, sort_mark, head_mark}
use Rattle.alg_law.proofs.WellSortedLaws.{literal-good}
use Rattle.alg_proof.specs.Steps.{Step}
use Rattle.alg_build.specs.Book.{Book, Grows, Proves, Makes, Adds}
use Rattle.alg_build.specs.Rewriting.{Stands, Turns, over}
use Rattle.alg_build.proofs.Lines.{grows-proves, makes-grows, adds-proves}
use Rattle.alg_build.proofs.Rewritings.{rewritings, grows-stands, grows-sorted}
use Rattle.alg_build.proofs.RowFacts.{grows-library}
use Rattle.alg_rows.specs.Operations.{negation_tree}
use Rattle.alg_numerals.specs.declared.combined.Combined.{Combined}
use Rattle.alg_numerals.specs.Numerals.{HasLiterals, HasSigns, Combines, of_combined}

head-negative : (ds : List Declaration) (s : Sort) → sort_mark ds s ≡ Good → has_class ds s AddGroup ≡ true → head_mark ds Neg s (s ∷ []) ≡ Good
head-negative ds s k g = rw (k, g, sort_same-self s) refl

one-good : (ds : List Declaration) (f : Sym) (s : Sort) (x : Tree) → head_mark ds f s (sort_of_tree x ∷ []) ≡ Good → IsWellSorted ds x → IsWellSorted ds (App f s (Cons x Nil))
one-good ds f s x h g = rw (h, g) refl

module _ (a b : Book) (g : Grows a b) where
  pub grows-literals : (s : Sort) → HasLiterals a s → HasLiterals b s
  grows-literals s h = record { known = rw g.theory h.known; semiring = rw g.theory h.semiring; library = grows-library a b g h.library }

  pub grows-signs : (s : Sort) → HasSigns a s → HasSigns b s
  grows-signs s h = record { literals = grows-literals s h.literals; group = rw g.theory h.group; commutative = rw g.theory h.commutative; ring = rw g.theory h.ring }

  pub grows-combines : (f : Sym) (s : Sort) (q : Combined) (x y z : Tree) → Combines a f s q x y z → Combines b f s q x y z
  grows-combines f s q x y z h = record { first = grows-stands a b g s q.first x h.first; second = grows-stands a b g s q.second y h.second; total = grows-stands a b g s q.total z h.total; line = grows-proves a b q.line _ _ g h.line }

-- the id of a literal that was made
pub makes-literal : (a b : Book) (s : Sort) (e : ExprId) (n : ℕ) → Makes a b e (Lit s n) → HasLiterals a s → Stands b s e (Lit s n)
makes-literal a b s e n m h =
    let k = grows-literals a b (makes-grows a b e (Lit s n) m) s h in
    record { here = m.here; tree = m.tree; sorted = literal-good b.theory.declarations s k.known k.semiring n; sort = refl }

-- the id of a negation that was made
pub makes-negative : (a b : Book) (s : Sort) (e f : ExprId) (x : Tree) → Stands a s e x → HasSigns a s → Makes a b f (App Neg s (of_list (trees_at a.trees (e ∷ [])))) → Stands b s f (negation_tree s x)
makes-negative a b s e f x h k m =
    let g = makes-grows a b f _ m in
    let w = grows-signs a b g s k in
    let i : tree_of a.trees e ≡ x = h.tree in
    let p : sort_of_tree x ≡ s = h.sort in
    record {
      here = m.here;
      tree = m.tree ∙ ap (negation_tree s) i;
      sorted = one-good b.theory.declarations Neg s x (rw p (head-negative b.theory.declarations s w.literals.known w.group)) (grows-sorted a b x g h.sorted);
      sort = refl;
    }

-- three trees, beside a line on them
pub combines : (b : Book) (f : Sym) (s : Sort) (q : Combined) (i : ℕ) (x y z : Tree) → Stands b s q.first x → Stands b s q.second y → Stands b s q.total z → q.line ≡ i → Proves b i (over f s x y) z → Combines b f s q x y z
combines b f s q i x y z h k m e p = record { first = h; second = k; total = m; line = rw e p }

-- three literals, beside a line on them that was made before
pub combined : (a b c : Book) (f : Sym) (s : Sort) (q : Combined) (i : ℕ) (l : Step) (m n k r : ℕ) → Adds a b i l (equal (over f s (Lit s m) (Lit s n)) (Lit s k)) → Grows b c → Stands c s q.first (Lit s m) → Stands c s q.second (Lit s n) → Stands c s q.total (Lit s r) → q.line ≡ i → k ≡ r → Combines c f s q (Lit s m) (Lit s n) (Lit s r)
combined a b c f s q i l m n k r p g h j t e w = combines c f s q i _ _ _ h j t e (rw (← w) (grows-proves b c i _ _ g (adds-proves a b i l _ _ p)))

module _ (b : Book) where
  -- an id stands for its tree
  pub own-stands : (s : Sort) (e : ExprId) (x : Tree) → Stands b s e x → Stands b s e (tree_of b.trees e)
  own-stands s e x h = rw h.tree h

  -- the trees that the ids stand for are those that the line is on
  pub own-line : (f : Sym) (s : Sort) (q : Combined) (x y z : Tree) → Combines b f s q x y z → Proves b q.line (over f s (tree_of b.trees q.first) (tree_of b.trees q.second)) (tree_of b.trees q.total)
  own-line f s q x y z h = rw (h.first.tree, h.second.tree, h.total.tree) h.line

  -- the line as a rewriting
  pub combined-turns : (f : Sym) (s : Sort) (q : Combined) (x y z : Tree) → Combines b f s q x y z → Turns b s (of_combined q) (over f s x y) z
  combined-turns f s q x y z h = record { here = h.total.here; tree = h.total.tree; says = h.line; sorted = h.total.sorted; left = refl; right = h.total.sort }

pub ruleset literal_facts = (rewritings, grows-literals, grows-signs, grows-combines, makes-literal, makes-negative, combines, own-stands, own-line, combined-turns)
