-- A kernel stays sound, and where it was, as the arena grows.
use Rattle.std.specs.Prelude.{◌≡◌, List, [], ◌∷◌, All, Option, Some, None, option_map, refl}
use Rattle.std.proofs.Common.{ap, sym, subst}
use Rattle.alg_terms.specs.Tree.{Tree, Statement}
use Rattle.alg_expr.specs.declared.ids.ExprId.{ExprId}
use Rattle.alg_expr.specs.declared.ids.Stmt.{Stmt}
use Rattle.alg_expr.specs.Ids.{tree_of, trees_at, IsIn, statement_of, statements_of}
use Rattle.alg_expr.specs.Arena.{Extends}
use Rattle.alg_expr.proofs.ArenaLaws.{IsIn-extends, tree_of-extends, statement_of-extends, statements_of-extends, IsStatementIn-extends}
use Rattle.std.proofs.lemmas.List.Elements.{All-head, All-tail}
use Rattle.alg_law.specs.Declarations.{Declaration}
use Rattle.alg_law.proofs.MarkLemmas.{HasMarks-extends}
use Rattle.alg_law.specs.WellSorted.{IsStatement}
use Rattle.alg_proof.specs.declared.lines.Line.{Line}
use Rattle.alg_proof.specs.declared.lines.Line.TheVariants as line
use Rattle.alg_proof.specs.Lines.{step_of, IsLineIn}
use Rattle.alg_proof.specs.Steps.{Refl, Law, Lemma, Bridge}
use Rattle.alg_proof.specs.Admissible.{AllFine, IsTheory}
use Rattle.alg_kernel.specs.declared.grounds.Grounds.{Grounds}
use Rattle.alg_kernel.specs.declared.kernel.BadLine.{BadLine}
use Rattle.alg_kernel.specs.declared.kernel.Kernel.{Kernel}
use Rattle.alg_kernel.specs.State.{theory_of, IsGivenIn, reached, progress_of, IsSound}

module _ (old new : List Tree) (grown : Extends old new) where
  trees-later : (es : List ExprId) → All (IsIn old) es → trees_at new es ≡ trees_at old es
  trees-later [] h = refl
  trees-later (e ∷ es) h =
      let p : tree_of new e ≡ tree_of old e = tree_of-extends old new e grown (All-head (IsIn old) e es h) in
      let q : trees_at new es ≡ trees_at old es = trees-later es (All-tail (IsIn old) e es h) in
      λ i. p i ∷ q i

  -- a line stays the same line
  pub step_of-extends : (l : Line) → IsLineIn old l → step_of new l ≡ step_of old l
  step_of-extends (line.Refl e) h = ap Refl (tree_of-extends old new e grown h)
  step_of-extends (line.Symm i) h = refl
  step_of-extends (line.Trans i j) h = refl
  step_of-extends (line.Cong f is) h = refl
  step_of-extends (line.Subst i j k) h = refl
  step_of-extends (line.Law n s es is) h = ap (λ xs. Law n s xs is) (trees-later es h)
  step_of-extends (line.Lemma n s es is) h = ap (λ xs. Lemma n s xs is) (trees-later es h)
  step_of-extends (line.Hyp n) h = refl
  step_of-extends line.Rest h = refl
  step_of-extends (line.LitAdd s m n) h = refl
  step_of-extends (line.LitMul s m n) h = refl
  step_of-extends (line.LitRel r s m n) h = refl
  step_of-extends (line.Bridge k n e) h = ap (Bridge k n) (tree_of-extends old new e grown h)
  step_of-extends (line.Compute c s xs) h = refl

  pub IsLineIn-extends : (l : Line) → IsLineIn old l → IsLineIn new l
  IsLineIn-extends (line.Refl e) h = IsIn-extends old new e grown h
  IsLineIn-extends (line.Symm i) h = tt
  IsLineIn-extends (line.Trans i j) h = tt
  IsLineIn-extends (line.Cong f is) h = tt
  IsLineIn-extends (line.Subst i j k) h = tt
  IsLineIn-extends (line.Law n s es is) h = λ k d l. IsIn-extends old new _ grown (h k d l)
  IsLineIn-extends (line.Lemma n s es is) h = λ k d l. IsIn-extends old new _ grown (h k d l)
  IsLineIn-extends (line.Hyp n) h = tt
  IsLineIn-extends line.Rest h = tt
  IsLineIn-extends (line.LitAdd s m n) h = tt
  IsLineIn-extends (line.LitMul s m n) h = tt
  IsLineIn-extends (line.LitRel r s m n) h = tt
  IsLineIn-extends (line.Bridge k n e) h = IsIn-extends old new e grown h
  IsLineIn-extends (line.Compute c s xs) h = tt

  given-same : (ds : List Declaration) (g : Option Stmt) → IsGivenIn ds old g → option_map (statement_of new) g ≡ option_map (statement_of old) g
  given-same ds None h = refl
  given-same ds (Some s) h = ap Some (statement_of-extends old new s grown h.0)

  pub IsGivenIn-extends : (ds : List Declaration) (g : Option Stmt) → IsGivenIn ds old g → IsGivenIn ds new g
  IsGivenIn-extends ds None h = tt
  IsGivenIn-extends ds (Some s) h =
      ((IsIn-extends old new s.lhs grown h.0.0, IsIn-extends old new s.rhs grown h.0.1), subst (IsStatement ds) (sym (statement_of-extends old new s grown h.0)) h.1)

  pub theory_of-extends : (g : Grounds) → IsGivenIn g.base.now old g.given → theory_of new g ≡ theory_of old g
  theory_of-extends g h = λ i. record { declarations = g.base.now; lemmas = (theory_of old g).lemmas; given = given-same g.base.now g.given h i }

  reached-same : (ss rs : List Statement) (b : Option BadLine) → ss ≡ rs → reached ss b ≡ reached rs b
  reached-same ss rs b e = ap (λ (x : List Statement). reached x b) e

  pub progress_of-extends : (k : Kernel) → IsSound old k → progress_of new k ≡ progress_of old k
  progress_of-extends k h = reached-same _ _ k.bad (statements_of-extends old new k.done.items grown h.done_in)

  pub IsSound-extends : (k : Kernel) → IsSound old k → IsSound new k
  IsSound-extends k h =
      let ds : List Declaration = k.grounds.base.now in
      let same : option_map (statement_of new) k.grounds.given ≡ option_map (statement_of old) k.grounds.given = given-same ds k.grounds.given h.given in
      let done : statements_of new k.done.items ≡ statements_of old k.done.items = statements_of-extends old new k.done.items grown h.done_in in
      record {
        marked = HasMarks-extends ds old new k.marks.items grown h.marked;
        given = IsGivenIn-extends ds k.grounds.given h.given;
        done_in = IsStatementIn-extends old new k.done.items grown h.done_in;
        theory = subst IsTheory (sym (theory_of-extends k.grounds h.given)) h.theory;
        fine = subst (λ (o : Option Statement). AllFine ds o (statements_of new k.done.items)) (sym same) (subst (AllFine ds (option_map (statement_of old) k.grounds.given)) (sym done) h.fine);
      }
