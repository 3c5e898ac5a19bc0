-- Absolute values, minima and maxima.
use Rattle.std.specs.Prelude.{◌≡◌, Bool, true, false, [], ◌∷◌}
use Rattle.alg_terms.specs.declared.sorts.Sort.{Sort}
use Rattle.alg_terms.specs.declared.symbols.Sym.{Sym}
use Rattle.alg_terms.specs.declared.symbols.Sym.TheVariants.{Abs, Min, Max}
use Rattle.alg_terms.specs.Tree.{Tree, App, Cons, Nil, sort_of_tree}
use Rattle.alg_expr.specs.Ids.{tree_of}
use Rattle.alg_num.specs.Fraction.{Fraction}
use Rattle.alg_law.specs.declared.classes.Class.TheVariants.{IsStrictOrderedRing, LinearOrder}
use Rattle.alg_law.specs.Having.{has_class}
use Rattle.alg_lemma.specs.Library.{HoldsLibrary}
use Rattle.alg_build.specs.Book.{Book}
use Rattle.alg_build.specs.Rewriting.{Heads}
use Rattle.alg_exts.specs.Valuing.{IsValued}
use Rattle.alg_exts.specs.declared.num_ext.Valued.{Valued}
use Rattle.alg_normext.specs.declared.heads.Head.{Head}

-- abs x
abbrev pub absolute_tree : Sort → Tree → Tree
absolute_tree s x = App Abs s (Cons x Nil)

abbrev pub is_absolute : Sym → Bool
is_absolute Abs = true
is_absolute _ = false

abbrev pub is_extreme : Sym → Bool
is_extreme Min = true
is_extreme Max = true
is_extreme _ = false

-- the smaller of two fractions or the greater, where it's known whether the first is at most the second
abbrev pub extreme_of : Sym → (at_most : Bool) → Fraction → Fraction → Fraction
extreme_of Max true p q = q
extreme_of Max false p q = p
extreme_of _ true p q = p
extreme_of _ false p q = q

-- the symbol is `min` or `max`, and may stand over the two evaluated parts, whose sort has an order as a ring has
pub record IsPair (b : Book) (h : Head) (a c : Valued) : Type 0 where
  pub extreme : is_extreme h.sym ≡ true
  pub first : IsValued b a
  pub second : IsValued b c
  pub first_sort : sort_of_tree (tree_of b.trees a.expr) ≡ h.sort
  pub second_sort : sort_of_tree (tree_of b.trees c.expr) ≡ h.sort
  pub heads : Heads b h.sym h.sort (h.sort ∷ h.sort ∷ [])
  pub ordered : has_class b.theory.declarations h.sort IsStrictOrderedRing ≡ true
  pub linear_order : has_class b.theory.declarations h.sort LinearOrder ≡ true
  pub library : HoldsLibrary b.theory.lemmas
