-- Rewritings one after the other, evaluated parts, and values.
use Rattle.std.proofs.Common.{◌≡◌, ℕ, sym, subst}
use Rattle.alg_terms.specs.declared.sorts.Sort.{Sort}
use Rattle.alg_terms.specs.Tree.{Tree, sort_of_tree}
use Rattle.alg_expr.specs.declared.ids.ExprId.{ExprId}
use Rattle.alg_expr.specs.Ids.{tree_of, IsIn}
use Rattle.alg_expr.proofs.ArenaLaws.{IsIn-extends, tree_of-extends}
use Rattle.alg_num.specs.Fraction.{Fraction}
use Rattle.alg_build.specs.Book.{Book, Grows, Proves}
use Rattle.alg_build.specs.Rewriting.{Follows, Turns}
use Rattle.alg_build.specs.declared.rewriting.Rewriting.{Rewriting}
use Rattle.alg_build.proofs.Lines.{grows-proves}
use Rattle.alg_build.proofs.Rewritings.{as_sort, follows, grows-turns}
use Rattle.alg_fractions.specs.NumeralTree as fraction
use Rattle.alg_values.specs.Numerals as value
use Rattle.alg_exts.specs.Valuing.{IsValued}
use Rattle.alg_exts.specs.declared.num_ext.Valued.{Valued}
use Rattle.alg_order_exts.proofs.Trees.{same_numeral}

module _ (b c : Book) (s : Sort) (r q : Rewriting) (x y z : Tree) (g : Grows b c) (first : Turns b s r x y) (second : Turns c s q y z) where
  pub chain-follows : Follows c r q
  chain-follows = follows c s r q x y z (grows-turns b c g s r x y first) second

  pub chain-turns : (d : Book) (o : Rewriting) → ((t : Sort) (x y z : Tree) → Turns c t r x y → Turns c t q y z → Turns d t o x z) → Turns d s o x z
  chain-turns d o whole = whole s x y z (grows-turns b c g s r x y first) second

-- the line of an evaluated part
module _ (b : Book) (s : Sort) (v : Valued) (h : IsValued b v) (e : sort_of_tree (tree_of b.trees v.expr) ≡ s) where
  pub part-proves : Proves b v.line (tree_of b.trees v.expr) (fraction.numeral_tree s v.value)
  part-proves =
      let p : Proves b v.line (tree_of b.trees v.expr) (value.numeral_tree s v.value) = subst (λ (s : Sort). Proves b v.line (tree_of b.trees v.expr) (value.numeral_tree s v.value)) e h.proves in
      subst (λ (t : Tree). Proves b v.line (tree_of b.trees v.expr) t) (sym (same_numeral s v.value)) p

  pub part-turns : (r : Rewriting) → ((x y : Tree) → Proves b v.line x y → Turns b (sort_of_tree x) r x y) → Turns b s r (tree_of b.trees v.expr) (fraction.numeral_tree s v.value)
  part-turns r whole = as_sort b s (sort_of_tree (tree_of b.trees v.expr)) r _ _ (sym e) (whole _ _ part-proves)

-- and as the book grows
pub grows-valued : (a b : Book) → Grows a b → (v : Valued) → IsValued a v → IsValued b v
grows-valued a b g v h =
    let e : tree_of b.trees v.expr ≡ tree_of a.trees v.expr = tree_of-extends a.trees b.trees v.expr g.trees h.here in
    record { here = IsIn-extends a.trees b.trees v.expr g.trees h.here; proves = rw e (grows-proves a b v.line _ _ g h.proves) }

pub grows-tree : (a b : Book) → Grows a b → (v : Valued) → IsValued a v → tree_of b.trees v.expr ≡ tree_of a.trees v.expr
grows-tree a b g v h = tree_of-extends a.trees b.trees v.expr g.trees h.here

-- a value of a tree, by a line
pub found-valued : (a b : Book) (e : ExprId) (s : Sort) (p : Fraction) (n : ℕ) → Grows a b → IsIn a.trees e → sort_of_tree (tree_of a.trees e) ≡ s → Proves b n (tree_of a.trees e) (fraction.numeral_tree s p) → IsValued b (record { expr = e; value = p; line = n })
found-valued a b e s p n g i k h =
    let same : tree_of b.trees e ≡ tree_of a.trees e = tree_of-extends a.trees b.trees e g.trees i in
    record { here = IsIn-extends a.trees b.trees e g.trees i; proves = rw (same, k, ← same_numeral s p) h }
