-- What is derived as the book grows, and what calls ask for.
use Rattle.std.proofs.Common.{◌≡◌, ℕ, Some, ap₂, sym, subst, ◌∙◌}
use Rattle.alg_terms.specs.declared.sorts.Sort.{Sort}
use Rattle.alg_terms.specs.Tree.{Tree, sum_tree}
use Rattle.alg_expr.specs.declared.ids.ExprId.{ExprId}
use Rattle.alg_expr.specs.Ids.{tree_of}
use Rattle.alg_proof.specs.Steps.{Theory}
use Rattle.alg_build.specs.Book.{Book, Grows, Proves}
use Rattle.alg_build.specs.declared.rewriting.Rewriting.{Rewriting}
use Rattle.alg_build.specs.Rewriting.{Turns, Stands}
use Rattle.alg_build.proofs.Lines.{grows-proves}
use Rattle.alg_build.proofs.Rewritings.{rewritings, grows-stands, grows-turns}
use Rattle.alg_sorted_sums.specs.Sums.{CanSum}
use Rattle.alg_sorted_sums.proofs.Growing.{grows-holds, same}
use Rattle.alg_node_sums.specs.declared.lines.Derived.{Derived}
use Rattle.alg_node_sums.specs.Polynomials.{HasPolynomials, HasNegations}
use Rattle.alg_node_sums.specs.Deriving.{Derives}
use Rattle.alg_node_sums.specs.Combining.{LeadsToSum}

pub can_sum : (t : Theory) (s : Sort) → HasPolynomials t s → CanSum t s
can_sum t s h = record { known = h.known; monoid = h.add_monoid; commutative = h.add_comm_monoid; library = h.library }

module _ (a b : Book) (s : Sort) (g : Grows a b) where
  pub grows-polynomials : HasPolynomials a.theory s → HasPolynomials b.theory s
  grows-polynomials h = rw g.theory h

  pub grows-negations : HasNegations a.theory s → HasNegations b.theory s
  grows-negations h = rw g.theory h

  pub grows-derives : (d : Derived) (t u : Tree) → Derives a s d t u → Derives b s d t u
  grows-derives d t u h = record { stands = grows-stands a b g s d.tree u h.stands; line = grows-proves a b d.line t u g h.line; sort = h.sort }

module _ (b : Book) (s : Sort) where
  -- what is derived, as a rewriting
  pub as_rewriting : (d : Derived) (t u : Tree) → Derives b s d t u → Turns b s (record { to = d.tree; line = Some d.line }) t u
  as_rewriting d t u h = record { here = h.stands.here; tree = h.stands.tree; says = h.line; sorted = h.stands.sorted; left = h.sort; right = h.stands.sort }

  -- a rewriting with its line
  pub as_derived : (r : Rewriting) (n : ℕ) (t u : Tree) → Turns b s r t u → Proves b n t u → Derives b s (record { tree = r.to; line = n }) t u
  as_derived r n t u h p = record {
    stands = record { here = h.here; tree = h.tree; sorted = h.sorted; sort = h.right };
    line = p;
    sort = h.left;
  }

  -- of the tree that the id stands for
  pub derives-own : (d : Derived) (t u : Tree) → Derives b s d t u → Derives b s d t (tree_of b.trees d.tree)
  derives-own d t u h = rw h.stands.tree h

  pub leads-to_sum : (r : Rewriting) (d e : Derived) (t x y : Tree) → Turns b s r t (sum_tree s x y) → Derives b s d x (tree_of b.trees d.tree) → Derives b s e y (tree_of b.trees e.tree) → LeadsToSum b s r d e
  leads-to_sum r d e t x y h k m = record { from = t; left = x; right = y; turns = h; first = k; second = m }

-- the tree of an id stays
pub stays : (a b : Book) (s : Sort) (e : ExprId) (t : Tree) → Grows a b → Stands a s e t → tree_of b.trees e ≡ tree_of a.trees e
stays a b s e t g h = (grows-stands a b g s e t h).tree ∙ sym h.tree

-- lines for the sum of two trees, as the book grows
module _ (a b : Book) (s : Sort) (g : Grows a b) (x y : ExprId) (t u v : Tree) where
  sides : Stands a s x t → Stands a s y u → sum_tree s t u ≡ sum_tree s (tree_of b.trees x) (tree_of b.trees y)
  sides h k = ap₂ (sum_tree s) (sym (grows-stands a b g s x t h).tree) (sym (grows-stands a b g s y u k).tree)

  pub moved-line : (n : ℕ) → Stands a s x t → Stands a s y u → Proves b n (sum_tree s t u) v → Proves b n (sum_tree s (tree_of b.trees x) (tree_of b.trees y)) v
  moved-line n h k p = subst (λ z. Proves b n z v) (sides h k) p

  pub moved : (d : Derived) → Stands a s x t → Stands a s y u → Derives b s d (sum_tree s t u) v → Derives b s d (sum_tree s (tree_of b.trees x) (tree_of b.trees y)) (tree_of b.trees d.tree)
  moved d h k p = derives-own b s d _ v (subst (λ z. Derives b s d z v) (sides h k) p)

pub ruleset derived_facts = (rewritings, grows-holds, can_sum, grows-polynomials, grows-negations, grows-derives, as_rewriting, as_derived, derives-own, leads-to_sum)
