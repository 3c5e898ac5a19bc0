-- What the steps of the trial are over, and what they give.
use Rattle.std.proofs.Common.{◌≡◌, refl, subst}
use Rattle.std.specs.Prelude.{Result}
use Rattle.alg_terms.specs.declared.sorts.Sort.{Sort}
use Rattle.alg_terms.specs.declared.sorts.Sort.TheVariants.{Nat}
use Rattle.alg_terms.specs.Tree.{Tree, Statement, Lit, sum_tree}
use Rattle.alg_expr.specs.declared.ids.ExprId.{ExprId}
use Rattle.alg_expr.specs.declared.ids.Stmt.{Stmt}
use Rattle.alg_expr.specs.Ids.{tree_of, statement_of, IsStatementIn}
use Rattle.alg_expr.proofs.ArenaLaws.{tree_of-extends}
use Rattle.alg_build.specs.Answer.{Answer, Gives}
use Rattle.alg_build.specs.Book.{Book, Grows, Makes}
use Rattle.alg_build.specs.Rewriting.{Stands, Turns}
use Rattle.alg_build.specs.declared.outcome.Outcome.{Outcome}
use Rattle.alg_build.specs.declared.outcome.TacFault.{TacFault}
use Rattle.alg_build.specs.declared.rewriting.Rewriting.{Rewriting}
use Rattle.alg_build.proofs.Lines.{lines, keeps}
use Rattle.alg_build.proofs.Rewritings.{rewritings}
use Rattle.alg_ends.proofs.EndFacts.{left_stands, right_stands}
use Rattle.alg_ends.specs.CommonEnd.{common_end}

pub made_zero : (a b : Book) (e : ExprId) → Makes a b e (Lit Nat 0) → Stands b Nat e (Lit Nat 0)
made_zero a b e m = record { here = m.here; tree = m.tree; sorted = refl; sort = refl }

pub into_itself : (b : Book) (s : Sort) (r : Rewriting) (t u : Tree) → Turns b s r t u → Turns b s r t (tree_of b.trees r.to)
into_itself b s r t u h = rw h.tree h

pub stands_itself : (b : Book) (s : Sort) (e : ExprId) (t : Tree) → Stands b s e t → Stands b s e (tree_of b.trees e)
stands_itself b s e t h = rw h.tree h

pub ends_same : (c : Book) (o : Result Outcome TacFault) (s t : Statement) (l m r q : Tree) → s ≡ t → l ≡ m → r ≡ q → Gives c o (common_end s l r) → Gives c o (common_end t m q)
ends_same c o s t l m r q e f g h = subst (λ (a : Answer). Gives c o a) (λ i. common_end (e i) (f i) (g i)) h

pub row_from : (b : Book) (r : Rewriting) (x y : Tree) → x ≡ y → Turns b Nat r (sum_tree Nat (Lit Nat 0) x) x → Turns b Nat r (sum_tree Nat (Lit Nat 0) y) y
row_from b r x y e h = subst (λ (t : Tree). Turns b Nat r (sum_tree Nat (Lit Nat 0) t) t) e h

pub grown_statement : (a b : Book) (g : Stmt) → Grows a b → IsStatementIn a.trees g → statement_of b.trees g ≡ statement_of a.trees g
grown_statement a b g w here =
    let l = tree_of-extends a.trees b.trees g.lhs w.trees here.0 in
    let r = tree_of-extends a.trees b.trees g.rhs w.trees here.1 in
    λ i. record { rel = g.rel; sort = g.sort; lhs = l i; rhs = r i }

pub ruleset leaving = (rewritings, made_zero, left_stands, right_stands)

pub ruleset going_back = (lines, keeps)
