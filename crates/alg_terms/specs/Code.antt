-- Trees and statements as values of a model: each has a code, a tree of numbers, from which it can be read back.
use Rattle.std.specs.Prelude.{◌≡◌, ℕ, zero, suc, refl}
use Rattle.std.proofs.Common.{ap, sym, ◌∙◌}
use base.Stored.{Gv, gnil, gnum, gcons}
use Rattle.std.specs.Coded.{Coded, code_by, coded_ℕ, coded×}
use Rattle.alg_terms.specs.declared.sorts.Sort.TheVariants.{Nat}
use Rattle.alg_terms.specs.Keys.{sort_key, sort_at, sym_key, sym_at, sort_at-sort_key, sym_at-sym_key, rel_key, rel_at, rel_at-rel_key}
use Rattle.alg_terms.specs.Tree.{Tree, Lit, Var, App, Trees, Nil, Cons, Statement}

-- the code of a tree: a literal begins with 0, a variable with 1, a compound with its symbol and sort
abbrev mutual
  pub tree_store : Tree → Gv
  tree_store (Lit s n) = gcons (gnum 0) (gcons (gnum (sort_key s)) (gnum n))
  tree_store (Var d s) = gcons (gnum 1) (gcons (gnum d) (gnum (sort_key s)))
  tree_store (App f s xs) = gcons (gcons (gnum (sym_key f)) (gnum (sort_key s))) (trees_store xs)

  pub trees_store : Trees → Gv
  trees_store Nil = gnil
  trees_store (Cons x xs) = gcons (tree_store x) (trees_store xs)

-- the number that a code is, or 0
abbrev pub number : Gv → ℕ
number gnil = 0
number (gnum n) = n
number (gcons a b) = 0

-- the two parts of a code, or nothing
abbrev pub first : Gv → Gv
first gnil = gnil
first (gnum n) = gnil
first (gcons a b) = a

abbrev pub second : Gv → Gv
second gnil = gnil
second (gnum n) = gnil
second (gcons a b) = b

-- a literal or a variable, by its first number and the rest
abbrev pub leaf : ℕ → Gv → Tree
leaf zero g = Lit (sort_at (number (first g))) (number (second g))
leaf (suc n) g = Var (number (first g)) (sort_at (number (second g)))

-- a tree by its first part and what the second part gives
abbrev pub tree_from : Gv → Gv → Trees → Tree
tree_from gnil b xs = Lit Nat 0
tree_from (gnum n) b xs = leaf n b
tree_from (gcons f s) b xs = App (sym_at (number f)) (sort_at (number s)) xs

-- the tree that has a code
abbrev mutual
  pub tree_back : Gv → Tree
  tree_back gnil = Lit Nat 0
  tree_back (gnum n) = Lit Nat 0
  tree_back (gcons a b) = tree_from a b (trees_back b)

  pub trees_back : Gv → Trees
  trees_back gnil = Nil
  trees_back (gnum n) = Nil
  trees_back (gcons a b) = Cons (tree_back a) (trees_back b)

-- reading a code gives the tree back
mutual
  pub tree_back-tree_store : (a : Tree) → tree_back (tree_store a) ≡ a
  tree_back-tree_store (Lit s n) = ap (λ t. Lit t n) (sort_at-sort_key s)
  tree_back-tree_store (Var d s) = ap (λ t. Var d t) (sort_at-sort_key s)
  tree_back-tree_store (App f s xs) = λ i. App (sym_at-sym_key f i) (sort_at-sort_key s i) (trees_back-trees_store xs i)

  pub trees_back-trees_store : (xs : Trees) → trees_back (trees_store xs) ≡ xs
  trees_back-trees_store Nil = refl
  trees_back-trees_store (Cons x xs) = λ i. Cons (tree_back-tree_store x i) (trees_back-trees_store xs i)

-- trees are told apart by their codes
abbrev pub tree_code : Coded Tree
tree_code = record { code = tree_store; inj = λ x y e. sym (tree_back-tree_store x) ∙ ap tree_back e ∙ tree_back-tree_store y }

-- a statement is coded as the numbers of its relation and sort, and its two sides
abbrev pub statement_code : Coded Statement
statement_code =
    code_by (ℕ × (ℕ × (Tree × Tree))) (coded× coded_ℕ (coded× coded_ℕ (coded× tree_code tree_code)))
    (λ s. (rel_key s.rel, (sort_key s.sort, (s.lhs, s.rhs))))
    (λ p. record { rel = rel_at p.0; sort = sort_at p.1.0; lhs = p.1.1.0; rhs = p.1.1.1 })
    (λ s i. record { rel = rel_at-rel_key s.rel i; sort = sort_at-sort_key s.sort i; lhs = s.lhs; rhs = s.rhs })
