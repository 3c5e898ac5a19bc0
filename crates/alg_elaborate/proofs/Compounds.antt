-- What a call of the arena makes of a symbol.
use Rattle.std.proofs.Common.{◌≡◌, refl, sym, ap, ◌∙◌, subst, suc, List, [], ◌∷◌, length, map, true, false}
use Rattle.std.specs.Prelude.{◌&&◌, Result, Ok, Err, IfOk}
use Rattle.alg_terms.specs.declared.sorts.Sort.{Sort}
use Rattle.alg_terms.specs.declared.symbols.Sym.{Sym}
use Rattle.alg_terms.specs.Tree.{Tree, Lit, App, of_list, sort_of_tree}
use Rattle.alg_expr.specs.declared.ids.ExprId.{ExprId}
use Rattle.alg_expr.specs.Applying.{sorts_at, arity_fits, sorts_fit}
use Rattle.alg_expr.specs.Arena.{GrowsBy, Imports}
use Rattle.alg_expr.proofs.ArenaLaws.{GrowsBy-Extends}
use Rattle.alg_expr.specs.Ids.{tree_of, trees_at}
use Rattle.alg_elaborate.specs.TypedTrees.{tree_where, compound}

pub imports : (old new : List Tree) (e : ExprId) (t : Tree) → GrowsBy old new e t → Imports old new e t
imports old new e t h = record { keeps = GrowsBy-Extends old new e t h; here = h.here; tree = h.tree }

sorts_of : (ts : List Tree) (es : List ExprId) → map sort_of_tree (trees_at ts es) ≡ sorts_at ts es
sorts_of ts [] = refl
sorts_of ts (e ∷ es) = ap (λ ss. sort_of_tree (tree_of ts e) ∷ ss) (sorts_of ts es)

count_of : (ts : List Tree) (es : List ExprId) → length (trees_at ts es) ≡ length (sorts_at ts es)
count_of ts [] = refl
count_of ts (e ∷ es) = ap suc (count_of ts es)

compound_where : (f : Sym) (k : Sort) (ts : List Tree) (es : List ExprId) → compound f k (trees_at ts es) ≡ tree_where (arity_fits f (length (sorts_at ts es)) && sorts_fit f k (sorts_at ts es)) (App f k (of_list (trees_at ts es))) k
compound_where f k ts es =
    λ i. tree_where (arity_fits f (count_of ts es i) && sorts_fit f k (sorts_of ts es i)) (App f k (of_list (trees_at ts es))) k

pub made_app : (old new : List Tree) (e : ExprId) (f : Sym) (k : Sort) (es : List ExprId) → GrowsBy old new e (App f k (of_list (trees_at old es))) → arity_fits f (length (sorts_at old es)) ≡ true → sorts_fit f k (sorts_at old es) ≡ true → Imports old new e (compound f k (trees_at old es))
made_app old new e f k es h p q =
    subst (Imports old new e) (sym (compound_where f k old es ∙ λ i. tree_where (p i && q i) (App f k (of_list (trees_at old es))) k)) (imports old new e _ h)

pub made_arity : (old mid new : List Tree) (e : ExprId) (f : Sym) (k : Sort) (es : List ExprId) → mid ≡ old → GrowsBy mid new e (Lit k 0) → arity_fits f (length (sorts_at old es)) ≡ false → Imports old new e (compound f k (trees_at old es))
made_arity old mid new e f k es m h p =
    subst (Imports old new e) (sym (compound_where f k old es ∙ ap (λ b. tree_where (b && sorts_fit f k (sorts_at old es)) (App f k (of_list (trees_at old es))) k) p)) (imports old new e _ (subst (λ ts. GrowsBy ts new e (Lit k 0)) m h))

pub made_sorts : (old mid new : List Tree) (e : ExprId) (f : Sym) (k : Sort) (es : List ExprId) → mid ≡ old → GrowsBy mid new e (Lit k 0) → arity_fits f (length (sorts_at old es)) ≡ true → sorts_fit f k (sorts_at old es) ≡ false → Imports old new e (compound f k (trees_at old es))
made_sorts old mid new e f k es m h p q =
    subst (Imports old new e) (sym (compound_where f k old es ∙ λ i. tree_where (p i && q i) (App f k (of_list (trees_at old es))) k)) (imports old new e _ (subst (λ ts. GrowsBy ts new e (Lit k 0)) m h))

pub lit_sorts : {E : Type 0} (old mid new : List Tree) (f : Sym) (k : Sort) (es : List ExprId) (r : Result ExprId E) → mid ≡ old → IfOk r (λ e. GrowsBy mid new e (Lit k 0)) → arity_fits f (length (sorts_at old es)) ≡ true → sorts_fit f k (sorts_at old es) ≡ false → IfOk r (λ e. Imports old new e (compound f k (trees_at old es)))
lit_sorts old mid new f k es (Ok e) m h p q = made_sorts old mid new e f k es m h p q
lit_sorts old mid new f k es (Err x) m h p q = tt
