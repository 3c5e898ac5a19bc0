-- The mark of a compound.
use Rattle.std.proofs.Common.{◌≡◌, List, [], ◌∷◌, refl, ap, sym, ◌∙◌, arith, length-append}
use Rattle.alg_terms.specs.declared.sorts.Sort.{Sort}
use Rattle.alg_terms.specs.declared.symbols.Sym.{Sym}
use Rattle.alg_terms.specs.Tree.{Tree, App, of_list, sort_of_tree, Lit}
use Rattle.alg_expr.specs.declared.ids.ExprId.{ExprId}
use Rattle.alg_expr.specs.Ids.{tree_of, trees_at}
use Rattle.alg_expr.specs.Applying.{sorts_at}
use Rattle.alg_law.specs.declared.marks.Mark.{Mark}
use Rattle.alg_law.specs.Declarations.{Declaration}
use Rattle.alg_law.specs.WellSorted.{worse, head_mark, mark_of, marks_of, sorts_of}
use Rattle.std.specs.Prelude.{◌<◌, length, get_or}
use Rattle.std.proofs.Math.ListN.{get_or-append}
use Rattle.alg_terms.specs.declared.sorts.Sort.TheVariants.{Nat}
use Rattle.alg_expr.specs.Arena.{Extends}
use Rattle.alg_law.specs.Marks.{HasMarks}

sorts_of-list : (ts : List Tree) (es : List ExprId) → sorts_of (of_list (trees_at ts es)) ≡ sorts_at ts es
sorts_of-list ts [] = refl
sorts_of-list ts (e ∷ es) = ap (λ ss. sort_of_tree (tree_of ts e) ∷ ss) (sorts_of-list ts es)

pub mark_of-app : (ds : List Declaration) (ts : List Tree) (e : ExprId) (f : Sym) (s : Sort) (args : List ExprId) (m : Mark) → tree_of ts e ≡ App f s (of_list (trees_at ts args))
    → m ≡ head_mark ds f s (sorts_at ts args) → worse m (marks_of ds (of_list (trees_at ts args))) ≡ mark_of ds (tree_of ts e)
mark_of-app ds ts e f s args m is own = rw (is, own, sorts_of-list ts args) refl

-- the marks stay as the arena grows
pub HasMarks-extends : (ds : List Declaration) (old new : List Tree) (marks : List Mark) → Extends old new → HasMarks ds old marks → HasMarks ds new marks
HasMarks-extends ds old new marks x h =
    record {
      within = omega (arith, h.within, ap length x.1, length-append old x.0);
      each = λ k d l.
          let m : k < length old = omega (arith, l, h.within) in
          let e : get_or new k (Lit Nat 0) ≡ get_or old k (Lit Nat 0) = rw x.1 (get_or-append old x.0 (Lit Nat 0) k m) in
          h.each k d l ∙ ap (mark_of ds) (sym e);
    }
