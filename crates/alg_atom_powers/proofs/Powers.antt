-- What powers of one atom rest on as the book grows.
use Rattle.std.proofs.Common.{◌≡◌}
use Rattle.alg_terms.specs.declared.sorts.Sort.{Sort}
use Rattle.alg_terms.specs.declared.sorts.Sort.TheVariants.{Nat}
use Rattle.alg_terms.specs.declared.symbols.Sym.{Sym}
use Rattle.alg_terms.specs.Tree.{Tree}
use Rattle.alg_expr.specs.declared.ids.ExprId.{ExprId}
use Rattle.alg_expr.specs.Ids.{tree_of}
use Rattle.alg_build.specs.Book.{Book, Grows}
use Rattle.alg_build.specs.Rewriting.{Stands, over}
use Rattle.alg_build.proofs.Rewritings.{grows-stands}
use Rattle.alg_rows.specs.Operations.{power_tree}
use Rattle.alg_sorted_sums.proofs.Growing.{grows-holds}
use Rattle.alg_build.proofs.HeadFacts.{npow-heads}
use Rattle.alg_numerals.specs.Numerals.{HasLiterals, Combines}
use Rattle.alg_numerals.specs.declared.combined.Combined.{Combined}
use Rattle.alg_numerals.proofs.LiteralLemmas.{grows-combines, combined-turns, own-stands}
use Rattle.alg_numerals.proofs.WholeLemmas.{natural-literals}
use Rattle.alg_node_sums.specs.Polynomials.{HasPolynomials}
use Rattle.alg_node_sums.proofs.Deriving.{derived_facts, derives-own, stays}
use Rattle.alg_node_sums.specs.declared.lines.Derived.{Derived}
use Rattle.alg_node_sums.specs.Deriving.{Derives}

pub exponents : (b : Book) (s : Sort) → HasPolynomials b.theory s → HasLiterals b Nat
exponents b s h = natural-literals b h.library

-- a power by an exponent that is the sum or product of two, over the ids of these
pub own_exponents : (a b c : Book) (s : Sort) (f : Sym) (q : Combined) (x : ExprId) (m n r : Tree) (d : Derived) → Grows a b → Grows b c → Stands a s x (tree_of a.trees x) → Combines b f Nat q m n r → Derives c s d (power_tree s (tree_of b.trees x) (over f Nat m n)) (power_tree s (tree_of b.trees x) r)
    → Derives c s d (power_tree s (tree_of c.trees x) (over f Nat (tree_of c.trees q.first) (tree_of c.trees q.second))) (tree_of c.trees d.tree)
own_exponents a b c s f q x m n r d g k h w e =
    let y : tree_of c.trees x ≡ tree_of b.trees x = stays b c s x (tree_of b.trees x) k (grows-holds a b s x g h) in
    rw (y, (grows-stands b c k Nat q.first m w.first).tree, (grows-stands b c k Nat q.second n w.second).tree) (derives-own c s d _ _ e)

pub ruleset power_facts = (derived_facts, exponents, npow-heads, grows-combines, combined-turns, own-stands)
