-- The order of sorts, symbols and trees, and equality as a test.
use Rattle.std.specs.Prelude.{Bool, nat_eq}
use Rattle.std.specs.Ordering.{nat_cmp, ordering_then, is_eq}
use Rattle.std.specs.declared.cmp.Ordering.{Ordering}
use Rattle.std.specs.declared.cmp.Ordering.TheVariants.{Less, Equal, Greater}
use Rattle.alg_terms.specs.declared.sorts.Sort.{Sort}
use Rattle.alg_terms.specs.declared.symbols.Sym.{Sym}
use Rattle.alg_terms.specs.declared.relations.Rel.{Rel}
use Rattle.alg_terms.specs.Keys.{sort_key, sym_key, rel_key}
use Rattle.alg_terms.specs.Tree.{Tree, Lit, Var, App, Trees, Nil, Cons}

-- ℕ, ℤ, ℚ, then the declared sorts by number
abbrev pub sort_cmp : Sort → Sort → Ordering
sort_cmp s t = nat_cmp (sort_key s) (sort_key t)

-- the built-in symbols in the order of their table, then the declared ones by number
abbrev pub sym_cmp : Sym → Sym → Ordering
sym_cmp f g = nat_cmp (sym_key f) (sym_key g)

-- literals before variables before compounds; literals and variables by number, compounds by symbol and then by
-- arguments, where a list that ends first comes first; all by sort last
abbrev mutual
  pub tree_cmp : Tree → Tree → Ordering
  tree_cmp (Lit s m) (Lit t n) = ordering_then (nat_cmp m n) (sort_cmp s t)
  tree_cmp (Lit s m) (Var _ _) = Less
  tree_cmp (Lit s m) (App _ _ _) = Less
  tree_cmp (Var d s) (Lit _ _) = Greater
  tree_cmp (Var d s) (Var e t) = ordering_then (nat_cmp d e) (sort_cmp s t)
  tree_cmp (Var d s) (App _ _ _) = Less
  tree_cmp (App f s xs) (Lit _ _) = Greater
  tree_cmp (App f s xs) (Var _ _) = Greater
  tree_cmp (App f s xs) (App g t ys) = ordering_then (sym_cmp f g) (ordering_then (trees_cmp xs ys) (sort_cmp s t))

  pub trees_cmp : Trees → Trees → Ordering
  trees_cmp Nil Nil = Equal
  trees_cmp Nil (Cons _ _) = Less
  trees_cmp (Cons x xs) Nil = Greater
  trees_cmp (Cons x xs) (Cons y ys) = ordering_then (tree_cmp x y) (trees_cmp xs ys)

-- whether two trees are the same
abbrev pub tree_same : Tree → Tree → Bool
tree_same x y = is_eq (tree_cmp x y)

-- whether two sorts are the same
abbrev pub sort_same : Sort → Sort → Bool
sort_same s t = is_eq (sort_cmp s t)

-- whether two relations are the same
abbrev pub rel_same : Rel → Rel → Bool
rel_same r q = nat_eq (rel_key r) (rel_key q)
