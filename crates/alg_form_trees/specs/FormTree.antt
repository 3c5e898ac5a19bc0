-- The tree of a form.
use Rattle.std.specs.Prelude.{ℕ, ◌+◌, List, get_or}
use Rattle.alg_terms.specs.declared.sorts.Sort.{Sort}
use Rattle.alg_terms.specs.declared.sorts.Sort.TheVariants.{Nat}
use Rattle.alg_terms.specs.declared.symbols.Sym.TheVariants.{Npow}
use Rattle.alg_terms.specs.Tree.{Tree, Lit, App, Cons, Nil, sum_tree, product_tree}
use Rattle.alg_horner.specs.Form.{Form, constant, skip, sum}

-- the power of an atom, by a literal of ℕ
abbrev pub raised_tree : Sort → Tree → ℕ → Tree
raised_tree s x i = App Npow s (Cons x (Cons (Lit Nat i) Nil))

-- p * x + q
abbrev pub node_tree : Sort → Tree → Tree → Tree → Tree
node_tree s p x q = sum_tree s (product_tree s p x) q

-- the power of atom k, by the trees of the atoms
abbrev pub raised : Sort → List Tree → ℕ → ℕ → Tree
raised s names k i = raised_tree s (get_or names k (Lit s 0)) i

-- by the trees of constants and of atoms; k is the number of the form's first atom
unfoldable pub form_tree : {C : Type 0} → (C → Tree) → Sort → List Tree → ℕ → Form C → Tree
form_tree leaf s names k (constant c) = leaf c
form_tree leaf s names k (skip j h) = form_tree leaf s names (k + j) h
form_tree leaf s names k (sum p i q) = node_tree s (form_tree leaf s names k p) (raised s names k i) (form_tree leaf s names (k + 1) q)
