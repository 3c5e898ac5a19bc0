-- The tree of a call, by its head.
use Rattle.std.proofs.Common.{◌≡◌, ℕ, true, List, ap, sym, ◌∙◌, subst}
use Rattle.alg_terms.specs.declared.sorts.Sort.{Sort}
use Rattle.alg_terms.specs.declared.symbols.Sym.{Sym}
use Rattle.alg_terms.specs.Tree.{Trees, App, of_list}
use Rattle.alg_expr.specs.declared.ids.ExprId.{ExprId}
use Rattle.alg_expr.specs.Ids.{tree_of}
use Rattle.alg_expr.proofs.ArenaLaws.{IsIn-extends, tree_of-extends}
use Rattle.alg_num.specs.Fraction.{Fraction}
use Rattle.alg_law.specs.WellSorted.{IsWellSorted}
use Rattle.alg_build.specs.Book.{Book, Grows, Proves}
use Rattle.alg_values.specs.Setting.{Classes}
use Rattle.alg_values.specs.Functions.{named_of}
use Rattle.alg_values.specs.Numerals.{numeral_tree}
use Rattle.alg_values.specs.declared.value.Value.TheVariants.{Num}
use Rattle.alg_exts.specs.Valuing.{IsCalled, IsValued, value_over, trees_of, fractions_of}
use Rattle.alg_exts.specs.declared.num_ext.Valued.{Valued}
use Rattle.alg_normext.specs.Functions.{is_whole_function}
use Rattle.alg_normext.specs.Wholes.{IsWorth}
use Rattle.alg_normext.specs.declared.heads.Head.{Head}
use Rattle.alg_normext.proofs.Functions.{named-whole}

module _ (b : Book) (e : ExprId) (args : List Valued) (q : IsCalled b is_whole_function e args) where
  pub compound : (f : Sym) × (s : Sort) × (ts : Trees) × (tree_of b.trees e ≡ App f s ts)
  compound = (q.sym, q.sort, of_list (trees_of b args), q.over.tree)

  module _ (h : Head) (is_sym : h.sym ≡ q.sym) (is_sort : h.sort ≡ q.sort) where
    pub head-tree : tree_of b.trees e ≡ App h.sym h.sort (of_list (trees_of b args))
    head-tree = q.over.tree ∙ (λ i. App (sym is_sym i) (sym is_sort i) (of_list (trees_of b args)))

    pub value-over : (has : Classes) → value_over has (tree_of b.trees e) (fractions_of args) ≡ named_of has h.sym h.sort (fractions_of args)
    value-over has = ap (λ t. value_over has t (fractions_of args)) head-tree

    pub is-worth : (has : Classes) (p : Fraction) → named_of has h.sym h.sort (fractions_of args) ≡ Num p → IsWorth b h args p
    is-worth has p v =
        let whole : is_whole_function h.sym ≡ true = ap is_whole_function is_sym ∙ q.covered in
        record {
          whole = whole;
          sorted = subst (IsWellSorted b.theory.declarations) head-tree q.over.sorted;
          valued = q.over.valued;
          value = sym (named-whole has h.sym h.sort (fractions_of args) whole) ∙ v;
        }

    pub valued : (c : Book) (line : ℕ) (p : Fraction) → Grows b c → Proves c line (App h.sym h.sort (of_list (trees_of b args))) (numeral_tree h.sort p) → IsValued c (record { expr = e; value = p; line = line })
    valued c line p g l = record {
      here = IsIn-extends b.trees c.trees e g.trees q.over.here;
      proves = rw (tree_of-extends b.trees c.trees e g.trees q.over.here, head-tree) l;
    }
