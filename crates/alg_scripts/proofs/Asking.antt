-- That a procedure is asked the same in a book with more trees.
use Rattle.std.proofs.Common.{◌≡◌, ℕ, zero, suc, ◌<◌, List, [], ◌∷◌, length, get_or, map, subst, sym, arith, All}
use Rattle.std.proofs.lemmas.List.Elements.{All-head, All-tail}
use Rattle.alg_terms.specs.declared.sorts.Sort.{Sort}
use Rattle.alg_terms.specs.Tree.{Tree}
use Rattle.alg_expr.specs.declared.ids.Stmt.{Stmt}
use Rattle.alg_expr.specs.Ids.{statement_of, IsStatementIn}
use Rattle.alg_expr.proofs.ArenaLaws.{IsIn-extends, statement_of-extends}
use Rattle.alg_law.specs.Declarations.{Declaration}
use Rattle.alg_law.specs.WellSorted.{IsStatement}
use Rattle.alg_lemma.specs.Library.{HoldsLibrary}
use Rattle.alg_proof.specs.Steps.{Theory}
use Rattle.alg_parse.specs.Told.{Call}
use Rattle.alg_parse.specs.Fitting.{CallFits}
use Rattle.alg_parse.specs.declared.procedures.Proc.{Proc}
use Rattle.alg_build.specs.Book.{Book, Grows, KeepsLines}
use Rattle.alg_build.proofs.Lines.{keeps-grows, grows-then}
use Rattle.alg_steps.specs.Calling.{call_in, IsProcIn}

module _ (a b : Book) (k : KeepsLines a b) where
  pub kept_in : (g : Stmt) → IsStatementIn a.trees g → IsStatementIn b.trees g
  kept_in g h = (IsIn-extends a.trees b.trees g.lhs k.trees h.0, IsIn-extends a.trees b.trees g.rhs k.trees h.1)

  pub kept_same : (g : Stmt) → IsStatementIn a.trees g → statement_of b.trees g ≡ statement_of a.trees g
  kept_same g h = statement_of-extends a.trees b.trees g k.trees h

  pub kept_sorted : (g : Stmt) → IsStatementIn a.trees g → IsStatement a.theory.declarations (statement_of a.trees g) → IsStatement b.theory.declarations (statement_of b.trees g)
  kept_sorted g here h = rw (k.theory, kept_same g here) h

  pub kept_library : HoldsLibrary a.theory.lemmas → HoldsLibrary b.theory.lemmas
  kept_library h = subst (λ (th : Theory). HoldsLibrary th.lemmas) (sym k.theory) h

  pub kept_fit : (s : Sort) (c d : Call) → c ≡ d → CallFits a.theory.declarations s d → CallFits b.theory.declarations s c
  kept_fit s c d e h = subst (λ (x : Call). CallFits b.theory.declarations s x) (sym e) (subst (λ (th : Theory). CallFits th.declarations s d) (sym k.theory) h)

  pub kept_grows : (c : Book) → Grows b c → Grows a c
  kept_grows c g = grows-then a b c (keeps-grows a b k) g

-- the procedure with number i of a script, from 0

pub at_index : (ts : List Tree) (ps : List Proc) (i : ℕ) (p : Proc) → i < length ps → p ≡ get_or ps i p → All (IsProcIn ts) ps → IsProcIn ts p
at_index ts ps i p l e h = subst (IsProcIn ts) (sym e) (h i p l)

pub fit_at : (ts : List Tree) (ds : List Declaration) (s : Sort) (ps : List Proc) (i : ℕ) (p : Proc) → i < length ps → p ≡ get_or ps i p → All (CallFits ds s) (map (call_in ts) ps) → CallFits ds s (call_in ts p)
fit_at ts ds s [] i p l e h = absurd (omega (arith, l))
fit_at ts ds s (q ∷ qs) zero p l e h = subst (λ (x : Proc). CallFits ds s (call_in ts x)) (sym e) (All-head (CallFits ds s) (call_in ts q) (map (call_in ts) qs) h)
fit_at ts ds s (q ∷ qs) (suc i) p l e h = fit_at ts ds s qs i p (omega (arith, l)) e (All-tail (CallFits ds s) (call_in ts q) (map (call_in ts) qs) h)
