-- What stays as an arena grows.
use Rattle.std.specs.Prelude.{◌≡◌, List, [], ◌∷◌, ◌++◌, length, All}
use Rattle.alg_terms.specs.Tree.{Tree, Lit}
use Rattle.alg_expr.specs.declared.ids.ExprId.{ExprId}
use Rattle.alg_expr.specs.Ids.{tree_of, IsIn, statement_of, statements_of, IsStatementIn}
use Rattle.std.proofs.Common.{inl, inr, refl, ap, sym, ◌∙◌, arith, length-append, append-nil, append_assoc}
use Rattle.std.proofs.Math.ListN.{get_or-append}
use Rattle.std.proofs.lemmas.List.Elements.{All-head, All-tail}
use Rattle.alg_terms.specs.declared.sorts.Sort.TheVariants.{Nat}
use Rattle.alg_expr.specs.declared.ids.Stmt.{Stmt}
use Rattle.alg_expr.specs.Arena.{Extends, GrowsBy}

pub Extends-self : (ts : List Tree) → Extends ts ts
Extends-self ts = ([], sym (append-nil ts))

pub Extends-then : (a b c : List Tree) → Extends a b → Extends b c → Extends a c
Extends-then a b c p q = (p.0 ++ q.0, q.1 ∙ ap (λ x. x ++ q.0) p.1 ∙ append_assoc a p.0 q.0)

pub GrowsBy-Extends : (old new : List Tree) (e : ExprId) (t : Tree) → GrowsBy old new e t → Extends old new
GrowsBy-Extends old new e t h = elim h.grown [ inl p ↦ ([], p ∙ sym (append-nil old)) | inr p ↦ (t ∷ [], p) ]

-- ids that are there stay there, with their trees
pub IsIn-extends : (old new : List Tree) (e : ExprId) → Extends old new → IsIn old e → IsIn new e
IsIn-extends old new e x h = omega (arith, ap length x.1, length-append old x.0)

pub tree_of-extends : (old new : List Tree) (e : ExprId) → Extends old new → IsIn old e → tree_of new e ≡ tree_of old e
tree_of-extends old new e x h = rw x.1 (get_or-append old x.0 (Lit Nat 0) e.index h)

pub statement_of-extends : (old new : List Tree) (s : Stmt) → Extends old new → IsStatementIn old s → statement_of new s ≡ statement_of old s
statement_of-extends old new s x h =
    λ i. record {
      rel = s.rel;
      sort = s.sort;
      lhs = tree_of-extends old new s.lhs x h.0 i;
      rhs = tree_of-extends old new s.rhs x h.1 i;
    }

pub statements_of-extends : (old new : List Tree) (ss : List Stmt) → Extends old new → All (IsStatementIn old) ss → statements_of new ss ≡ statements_of old ss
statements_of-extends old new [] x h = refl
statements_of-extends old new (s ∷ ss) x h =
    let a : statement_of new s ≡ statement_of old s = statement_of-extends old new s x (All-head (IsStatementIn old) s ss h) in
    let b : statements_of new ss ≡ statements_of old ss = statements_of-extends old new ss x (All-tail (IsStatementIn old) s ss h) in
    cc

pub IsStatementIn-extends : (old new : List Tree) (ss : List Stmt) → Extends old new → All (IsStatementIn old) ss → All (IsStatementIn new) ss
IsStatementIn-extends old new ss x h = λ k d l. (IsIn-extends old new _ x (h k d l).0, IsIn-extends old new _ x (h k d l).1)
