-- The calls of the extensions.
use Rattle.std.proofs.Common.{◌≡◌, suc, Bool, true, false, ◌&&◌, List, [], ◌∷◌, length, refl, ap, sym, ◌∙◌, subst}
use Rattle.std.specs.Prelude.{if◌then◌else◌}
use Rattle.std.proofs.lemmas.Bool.{and_parts}
use Rattle.std.proofs.lemmas.List.Elements.{All-head, All-tail}
use Rattle.alg_terms.specs.declared.sorts.Sort.{Sort}
use Rattle.alg_terms.specs.declared.symbols.Sym.{Sym}
use Rattle.alg_terms.specs.declared.symbols.Sym.TheVariants.{Abs, Min, Max}
use Rattle.alg_terms.specs.Symbols.{arguments_fit}
use Rattle.alg_terms.specs.Tree.{Tree, Trees, App, of_list, sort_of_tree}
use Rattle.alg_expr.specs.declared.ids.ExprId.{ExprId}
use Rattle.alg_expr.specs.Ids.{tree_of}
use Rattle.alg_num.specs.Fraction.{Fraction}
use Rattle.alg_law.specs.declared.classes.Class.TheVariants.{Ring, IsStrictOrderedRing, LinearOrder}
use Rattle.alg_law.specs.declared.marks.Mark.TheVariants.{Good, BadSort}
use Rattle.alg_law.specs.Having.{has_class}
use Rattle.alg_law.specs.WellSorted.{class_mark, head_mark, sort_mark, symbol_mark, mark_of, marks_of, sorts_of}
use Rattle.alg_law.proofs.WellSortedLaws.{worse-parts}
use Rattle.alg_lemma.specs.Library.{HoldsLibrary}
use Rattle.alg_build.specs.Book.{Book}
use Rattle.alg_build.specs.Rewriting.{Heads}
use Rattle.alg_values.specs.Setting.{Classes}
use Rattle.alg_values.specs.Ranges.{cross_products_in_range}
use Rattle.alg_values.specs.Functions.{named_of, absolute_of, is_at_most}
use Rattle.alg_values.specs.declared.value.Value.TheVariants.{Num, Past, Without}
use Rattle.alg_value_laws.proofs.Places.{sorts_are}
use Rattle.alg_exts.specs.Valuing.{IsCalled, IsOver, IsValued, value_over, trees_of}
use Rattle.alg_exts.specs.declared.num_ext.Valued.{Valued}
use Rattle.alg_normext.specs.declared.heads.Head.{Head}
use Rattle.alg_order_exts.specs.Order.{is_absolute, is_extreme, extreme_of, IsPair}

class_mark-is : (b : Bool) → class_mark b ≡ Good → b ≡ true
class_mark-is true e = refl
class_mark-is false e = cc

class_where : (b c : Bool) → (if b then class_mark c else BadSort) ≡ Good → c ≡ true
class_where true c e = class_mark-is c e
class_where false c e = cc

-- a tree that is known to be over evaluated parts
module _ (b : Book) (e : ExprId) (f : Sym) (s : Sort) (args : List Valued) (o : IsOver b e f s args) where
  over-head : head_mark b.theory.declarations f s (sorts_of (of_list (trees_of b args))) ≡ Good
  over-head = (worse-parts (head_mark b.theory.declarations f s (sorts_of (of_list (trees_of b args)))) (marks_of b.theory.declarations (of_list (trees_of b args))) (subst (λ (t : Tree). mark_of b.theory.declarations t ≡ Good) o.tree o.sorted)).0

  over-symbol : symbol_mark b.theory.declarations f s (sorts_of (of_list (trees_of b args))) ≡ Good
  over-symbol = (worse-parts (sort_mark b.theory.declarations s) (symbol_mark b.theory.declarations f s (sorts_of (of_list (trees_of b args)))) over-head).1

-- `abs`

absolute-is : (f : Sym) → is_absolute f ≡ true → f ≡ Abs
absolute-is Abs h = refl
absolute-is _ h = cc

pub absolute-over : (b : Book) (e : ExprId) (args : List Valued) (s : Sort) → s ≡ sort_of_tree (tree_of b.trees e) → IsCalled b is_absolute e args → IsOver b e Abs s args
absolute-over b e args s k q =
    let same : s ≡ q.sort = k ∙ ap sort_of_tree q.over.tree in
    subst (λ (t : Sort). IsOver b e Abs t args) (sym same) (subst (λ (f : Sym). IsOver b e f q.sort args) (absolute-is q.sym q.covered) q.over)

part_length : (b : Book) (args : List Valued) → length (sorts_of (of_list (trees_of b args))) ≡ length args
part_length b [] = refl
part_length b (a ∷ args) = ap suc (part_length b args)

pub absolute-count : (b : Book) (e : ExprId) (s : Sort) (args : List Valued) → IsOver b e Abs s args → length args ≡ 1
absolute-count b e s args o = sym (part_length b args) ∙ ap length (sorts_are b.theory.declarations Abs s (sorts_of (of_list (trees_of b args))) (over-symbol b e Abs s args o))

pub over-value : (has : Classes) (b : Book) (e : ExprId) (f : Sym) (s : Sort) (args : List Valued) (ps : List Fraction) → IsOver b e f s args → value_over has (tree_of b.trees e) ps ≡ named_of has f s ps
over-value has b e f s args ps o = ap (λ t. value_over has t ps) o.tree

module _ (b : Book) (e : ExprId) (s : Sort) (a : Valued) (o : IsOver b e Abs s (a ∷ [])) where
  pub absolute-valued : IsValued b a
  absolute-valued = All-head (IsValued b) a [] o.valued

  pub absolute-part : sort_of_tree (tree_of b.trees a.expr) ≡ s
  absolute-part = let k = sorts_are b.theory.declarations Abs s (sort_of_tree (tree_of b.trees a.expr) ∷ []) (over-symbol b e Abs s (a ∷ []) o) in cc

  absolute-classes : (has_class b.theory.declarations s Ring && has_class b.theory.declarations s IsStrictOrderedRing) ≡ true
  absolute-classes = class_where (arguments_fit Abs s (sort_of_tree (tree_of b.trees a.expr) ∷ [])) _ (over-symbol b e Abs s (a ∷ []) o)

  pub absolute-ring : has_class b.theory.declarations s Ring ≡ true
  absolute-ring = (and_parts _ _ absolute-classes).0

  pub absolute-ordered : has_class b.theory.declarations s IsStrictOrderedRing ≡ true
  absolute-ordered = (and_parts _ _ absolute-classes).1

  pub absolute-heads : Heads b Abs s (s ∷ [])
  absolute-heads = record { good = subst (λ (t : Sort). head_mark b.theory.declarations Abs s (t ∷ []) ≡ Good) absolute-part (over-head b e Abs s (a ∷ []) o) }

  pub absolute-value : named_of (has_class b.theory.declarations) Abs s (a.value ∷ []) ≡ Num (absolute_of a.value)
  absolute-value = rw absolute-classes refl

-- `min` and `max`

pub extreme-over : (b : Book) (e : ExprId) (args : List Valued) (h : Head) (q : IsCalled b is_extreme e args) → h.sym ≡ q.sym → h.sort ≡ q.sort → (is_extreme h.sym ≡ true) × IsOver b e h.sym h.sort args
extreme-over b e args h q p k = (
  ap is_extreme p ∙ q.covered,
  subst (λ (t : Sort). IsOver b e h.sym t args) (sym k) (subst (λ (f : Sym). IsOver b e f q.sort args) (sym p) q.over),
)

pub extreme-compound : (b : Book) (e : ExprId) (args : List Valued) (q : IsCalled b is_extreme e args) → (f : Sym) × (s : Sort) × (ts : Trees) × (tree_of b.trees e ≡ App f s ts)
extreme-compound b e args q = (q.sym, q.sort, of_list (trees_of b args), q.over.tree)

pub extreme-count : (b : Book) (e : ExprId) (f : Sym) (s : Sort) (args : List Valued) → is_extreme f ≡ true → IsOver b e f s args → length args ≡ 2
extreme-count b e Min s args h o = sym (part_length b args) ∙ ap length (sorts_are b.theory.declarations Min s (sorts_of (of_list (trees_of b args))) (over-symbol b e Min s args o))
extreme-count b e Max s args h o = sym (part_length b args) ∙ ap length (sorts_are b.theory.declarations Max s (sorts_of (of_list (trees_of b args))) (over-symbol b e Max s args o))
extreme-count b e _ s args h o = cc

both_sorts : (s t u : Sort) → t ∷ u ∷ [] ≡ s ∷ s ∷ [] → (t ≡ s) × (u ≡ s)
both_sorts s t u e = (cc, cc)

module _ (b : Book) (e : ExprId) (s : Sort) (a c : Valued) where
  pair-sorts : (f : Sym) → is_extreme f ≡ true → IsOver b e f s (a ∷ c ∷ []) → (sort_of_tree (tree_of b.trees a.expr) ≡ s) × (sort_of_tree (tree_of b.trees c.expr) ≡ s)
  pair-sorts Min h o = both_sorts s _ _ (sorts_are b.theory.declarations Min s (sort_of_tree (tree_of b.trees a.expr) ∷ sort_of_tree (tree_of b.trees c.expr) ∷ []) (over-symbol b e Min s (a ∷ c ∷ []) o))
  pair-sorts Max h o = both_sorts s _ _ (sorts_are b.theory.declarations Max s (sort_of_tree (tree_of b.trees a.expr) ∷ sort_of_tree (tree_of b.trees c.expr) ∷ []) (over-symbol b e Max s (a ∷ c ∷ []) o))
  pair-sorts _ h o = (cc, cc)

  pair-order : (f : Sym) → is_extreme f ≡ true → IsOver b e f s (a ∷ c ∷ []) → has_class b.theory.declarations s LinearOrder ≡ true
  pair-order Min h o = class_where (arguments_fit Min s (sort_of_tree (tree_of b.trees a.expr) ∷ sort_of_tree (tree_of b.trees c.expr) ∷ [])) _ (over-symbol b e Min s (a ∷ c ∷ []) o)
  pair-order Max h o = class_where (arguments_fit Max s (sort_of_tree (tree_of b.trees a.expr) ∷ sort_of_tree (tree_of b.trees c.expr) ∷ [])) _ (over-symbol b e Max s (a ∷ c ∷ []) o)
  pair-order _ h o = cc

pub is-pair : (b : Book) (e : ExprId) (h : Head) (a c : Valued) → is_extreme h.sym ≡ true → IsOver b e h.sym h.sort (a ∷ c ∷ []) → has_class b.theory.declarations h.sort IsStrictOrderedRing ≡ true → HoldsLibrary b.theory.lemmas → IsPair b h a c
is-pair b e h a c x o ordered library =
    let sorts = pair-sorts b e h.sort a c h.sym x o in
    record {
      extreme = x;
      first = All-head (IsValued b) a (c ∷ []) o.valued;
      second = All-head (IsValued b) c [] (All-tail (IsValued b) a (c ∷ []) o.valued);
      first_sort = sorts.0;
      second_sort = sorts.1;
      heads = record { good = rw (sorts.0, sorts.1) at (over-head b e h.sym h.sort (a ∷ c ∷ []) o) };
      ordered = ordered;
      linear_order = pair-order b e h.sort a c h.sym x o;
      library = library;
    }

-- what the value is, by the order of the parts
module _ (has : Classes) (s : Sort) (p q : Fraction) where
  pub extreme-known : (f : Sym) (t : Bool) → is_extreme f ≡ true → has s IsStrictOrderedRing ≡ true → t ≡ is_at_most p q → cross_products_in_range p q ≡ true → named_of has f s (p ∷ q ∷ []) ≡ Num (extreme_of f t p q)
  extreme-known Min true h k e r = rw (k, r, ← e) refl
  extreme-known Min false h k e r = rw (k, r, ← e) refl
  extreme-known Max true h k e r = rw (k, r, ← e) refl
  extreme-known Max false h k e r = rw (k, r, ← e) refl
  extreme-known _ t h k e r = cc

  pub extreme-past : (f : Sym) → is_extreme f ≡ true → has s IsStrictOrderedRing ≡ true → cross_products_in_range p q ≡ false → named_of has f s (p ∷ q ∷ []) ≡ Past
  extreme-past Min h k r = rw (k, r) refl
  extreme-past Max h k r = rw (k, r) refl
  extreme-past _ h k r = cc

  pub extreme-without : (f : Sym) → is_extreme f ≡ true → has s IsStrictOrderedRing ≡ false → named_of has f s (p ∷ q ∷ []) ≡ Without
  extreme-without Min h k = rw k refl
  extreme-without Max h k = rw k refl
  extreme-without _ h k = cc
