-- What lines of sums rest on stays as the book grows, and what calls ask for.
use Rattle.std.proofs.Common.{◌≡◌, ℕ, List, Some, refl}
use Rattle.std.specs.Prelude.{Result, IfOk, Ok, Err}
use Rattle.alg_expr.specs.declared.memory.Memory.{Memory}
use Rattle.alg_terms.specs.declared.sorts.Sort.{Sort}
use Rattle.alg_terms.specs.Tree.{Tree, sort_of_tree}
use Rattle.alg_expr.specs.declared.ids.ExprId.{ExprId}
use Rattle.alg_expr.specs.Ids.{tree_of}
use Rattle.alg_proof.specs.Steps.{Theory}
use Rattle.alg_build.specs.Book.{Book, Grows, Proves}
use Rattle.alg_build.specs.declared.rewriting.Rewriting.{Rewriting}
use Rattle.alg_build.specs.Rewriting.{Turns, Stands}
use Rattle.alg_build.proofs.Rewritings.{rewritings, grows-stands}
use Rattle.alg_num.specs.Fraction.{Fraction}
use Rattle.alg_monomials.specs.declared.monomials.Monomial.{Monomial}
use Rattle.alg_monomials.specs.declared.terms.Term.{Term}
use Rattle.alg_sorted_sums.specs.Sums.{CanSum}
use Rattle.alg_sorted_sums.specs.Merging.{CanAddAll}

pub grows-sums : (a b : Book) (s : Sort) → Grows a b → CanSum a.theory s → CanSum b.theory s
grows-sums a b s g h = rw g.theory h

pub grows-adds : (f : Theory → Sort → Fraction → Fraction → Type 0) (a b : Book) (s : Sort) (table : List Monomial) (p q : List Term) → Grows a b → CanAddAll f a.theory s table p q → CanAddAll f b.theory s table p q
grows-adds f a b s table p q g h = rw g.theory h

-- an id stands for its own tree
pub holds : (b : Book) (s : Sort) (e : ExprId) (t : Tree) → Stands b s e t → Stands b s e (tree_of b.trees e)
holds b s e t h = record { here = h.here; tree = refl; sorted = rw h.tree h.sorted; sort = rw h.tree h.sort }

pub grows-holds : (a b : Book) (s : Sort) (e : ExprId) → Grows a b → Stands a s e (tree_of a.trees e) → Stands b s e (tree_of b.trees e)
grows-holds a b s e g h = holds b s e _ (grows-stands a b g s e _ h)

-- the tree of an id stays
pub same : (a b : Book) (s : Sort) (e : ExprId) (t : Tree) → Grows a b → Stands a s e t → tree_of b.trees e ≡ t
same a b s e t g h = (grows-stands a b g s e t h).tree

-- where a rewriting leads
pub leads : (b : Book) (s : Sort) (r : Rewriting) (t u : Tree) → Turns b s r t u → Stands b s r.to (tree_of b.trees r.to)
leads b s r t u h = record { here = h.here; tree = refl; sorted = rw h.tree h.sorted; sort = rw h.tree h.right }

-- a line as a rewriting
pub as_turns : (b : Book) (s : Sort) (d : ExprId) (n : ℕ) (t u : Tree) → Stands b s d u → sort_of_tree t ≡ s → Proves b n t u → Turns b s (record { to = d; line = Some n }) t u
as_turns b s d n t u h e p = record { here = h.here; tree = h.tree; says = p; sorted = h.sorted; left = e; right = h.sort }

pub ruleset growing = (rewritings, grows-sums, grows-adds, grows-holds, holds, leads, as_turns)
