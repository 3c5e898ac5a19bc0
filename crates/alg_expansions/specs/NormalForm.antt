-- The normal form of a tree: in a commutative ring the tree of its polynomial, once its atoms are in normal form.
use Rattle.std.specs.Prelude.{ℕ, cond, Option, Some, None}
use Rattle.alg_terms.specs.declared.symbols.Sym.{Sym}
use Rattle.alg_terms.specs.declared.symbols.Sym.TheVariants.{Add, Mul, Neg, Sub, Div, Npow}
use Rattle.alg_terms.specs.Tree.{Tree, Lit, Var, App, Trees, Nil, Cons}
use Rattle.alg_sums.specs.Coefficients.{Coefficients}
use Rattle.alg_expansions.specs.Setting.{Setting}
use Rattle.alg_expansions.specs.Numerals.{numeral}
use Rattle.alg_expansions.specs.Expansion.{polynomial}
use Rattle.alg_expansions.specs.NormalTree.{normal_tree}

-- the first where a number is there, else the second
abbrev pub where_some : Option ℕ → Trees → Trees → Trees
where_some (Some n) a b = a
where_some None a b = b

-- the first of the one list, and the others of the other
abbrev pub with_first : Trees → Trees → Trees
with_first Nil ts = ts
with_first (Cons p ps) Nil = Nil
with_first (Cons p ps) (Cons t ts) = Cons p ts

-- the arguments of a prepared tree, from those arguments prepared, ps, and in normal form, ns: what is expanded is
-- prepared, an exponent with a number stays as it is, and the arguments of an atom, and what is inverted, are put in
-- normal form
abbrev pub prepared_arguments : Sym → Trees → Trees → Trees → Trees
prepared_arguments Add (Cons a (Cons b Nil)) ps ns = ps
prepared_arguments Sub (Cons a (Cons b Nil)) ps ns = ps
prepared_arguments Mul (Cons a (Cons b Nil)) ps ns = ps
prepared_arguments Neg (Cons a Nil) ps ns = ps
prepared_arguments Npow (Cons a (Cons e Nil)) ps ns = where_some (numeral e) (with_first ps (Cons a (Cons e Nil))) ns
prepared_arguments Div (Cons a (Cons b Nil)) ps ns = with_first ps ns
prepared_arguments f ts ps ns = ns

abbrev mutual
  -- in a ring the tree of the polynomial of the prepared tree; elsewhere the arguments change alone
  pub normal_form : {C : Type 0} → Coefficients C → Setting → Tree → Tree
  normal_form r k (Lit s n) = Lit s n
  normal_form r k (Var d s) = Var d s
  normal_form r k (App f s ts) = cond (k.is_ring s) (normal_tree r s (polynomial r k (App f s (prepared_arguments f ts (all_prepared r k ts) (normal_forms r k ts))))) (App f s (normal_forms r k ts))

  -- the tree with its atoms in normal form
  pub prepared : {C : Type 0} → Coefficients C → Setting → Tree → Tree
  prepared r k (Lit s n) = Lit s n
  prepared r k (Var d s) = Var d s
  prepared r k (App f s ts) = App f s (prepared_arguments f ts (all_prepared r k ts) (normal_forms r k ts))

  pub all_prepared : {C : Type 0} → Coefficients C → Setting → Trees → Trees
  all_prepared r k Nil = Nil
  all_prepared r k (Cons t ts) = Cons (prepared r k t) (all_prepared r k ts)

  pub normal_forms : {C : Type 0} → Coefficients C → Setting → Trees → Trees
  normal_forms r k Nil = Nil
  normal_forms r k (Cons t ts) = Cons (normal_form r k t) (normal_forms r k ts)
