-- The equation of a computed value.
use Rattle.std.proofs.Common.{◌≡◌, suc, List, [], ◌∷◌, length, refl, ap, ◌∙◌, subst, true}
use Rattle.std.specs.Prelude.{ℤ}
use Rattle.alg_terms.specs.declared.sorts.Sort.{Sort}
use Rattle.alg_terms.specs.declared.symbols.Sym.{Sym}
use Rattle.alg_terms.specs.declared.relations.Rel.TheVariants.{Eq}
use Rattle.alg_terms.specs.Tree.{Tree, App, of_list, sort_of_tree, equal}
use Rattle.alg_expr.specs.declared.ids.ExprId.{ExprId}
use Rattle.alg_expr.specs.Ids.{tree_of, trees_at, statement_of}
use Rattle.alg_expr.specs.Arena.{GrowsBy, Imports}
use Rattle.alg_expr.proofs.ArenaLaws.{tree_of-extends}
use Rattle.alg_expr.specs.Applying.{arity_fits, sorts_fit, sorts_at}
use Rattle.alg_law.specs.declared.marks.Mark.TheVariants.{Good}
use Rattle.alg_law.specs.Declarations.{Declaration}
use Rattle.alg_law.specs.WellSorted.{head_mark}
use Rattle.alg_proof.specs.Computations.{numeral_at, numerals_at, sorts_like}
use Rattle.alg_kernel.proofs.SideLemmas.{head-fits}
use Rattle.alg_kernel.proofs.NumeralLemmas.{numerals-sorts}

sorts-count : (ts : List Tree) (es : List ExprId) → length (sorts_at ts es) ≡ length es
sorts-count ts [] = refl
sorts-count ts (e ∷ es) = ap suc (sorts-count ts es)

module _ (ds : List Declaration) (ts : List Tree) (es : List ExprId) (f : Sym) (s : Sort) (xs : List ℤ) (g : head_mark ds f s (sorts_like s xs) ≡ Good) (e : trees_at ts es ≡ numerals_at s xs) where
  fits : (arity_fits f (length (sorts_at ts es)) ≡ true) × (sorts_fit f s (sorts_at ts es) ≡ true)
  fits = head-fits ds f s (sorts_at ts es) (ap (head_mark ds f s) (numerals-sorts ts es s xs e) ∙ g)

  pub value-arity : arity_fits f (length es) ≡ true
  value-arity = subst (λ n. arity_fits f n ≡ true) (sorts-count ts es) fits.0

  pub value-sorts : sorts_fit f s (sorts_at ts es) ≡ true
  value-sorts = fits.1

pub value-equation : (t1 t2 t3 : List Tree) (f : Sym) (s : Sort) (xs : List ℤ) (v : ℤ) (es : List ExprId) (l r : ExprId) → trees_at t1 es ≡ numerals_at s xs → GrowsBy t1 t2 l (App f s (of_list (trees_at t1 es))) → Imports t2 t3 r (numeral_at s v)
    → statement_of t3 (record { rel = Eq; sort = sort_of_tree (tree_of t3 l); lhs = l; rhs = r }) ≡ equal (App f s (of_list (numerals_at s xs))) (numeral_at s v)
value-equation t1 t2 t3 f s xs v es l r e g h =
    let left : tree_of t3 l ≡ App f s (of_list (numerals_at s xs)) = tree_of-extends t2 t3 l h.keeps g.here ∙ g.tree ∙ ap (λ ts. App f s (of_list ts)) e in
    λ i. record { rel = Eq; sort = sort_of_tree (left i); lhs = left i; rhs = h.tree i }
