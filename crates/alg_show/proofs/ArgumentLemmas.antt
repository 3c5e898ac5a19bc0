-- The arguments of a tree, by number.
use Rattle.std.proofs.Common.{◌≡◌, ℕ, zero, suc, ◌<◌, List, [], ◌∷◌, drop, All, Option, Some, None, refl, ap, sym, ◌∙◌, subst, arith}
use Rattle.std.specs.Prelude.{slice_get}
use Rattle.std.proofs.lemmas.List.Elements.{All-head, All-tail}
use Rattle.alg_terms.specs.declared.sorts.Sort.{Sort}
use Rattle.alg_terms.specs.declared.symbols.Sym.{Sym}
use Rattle.alg_terms.specs.Tree.{Tree, App, of_list}
use Rattle.alg_terms.proofs.TreeLaws.{to_list-of_list}
use Rattle.alg_expr.specs.declared.ids.ExprId.{ExprId}
use Rattle.alg_expr.specs.Ids.{tree_of, IsIn, trees_at}
use Rattle.alg_show.specs.Tasks.{parts_of, IsArgument}

abbrev Here : List Tree → ℕ → List ExprId → ℕ → Option ExprId → Type 0
Here ts n args k None = drop k (trees_at ts args) ≡ []
Here ts n args k (Some a) = (drop k (trees_at ts args) ≡ tree_of ts a ∷ drop (suc k) (trees_at ts args)) × (a.index < n)

got : (ts : List Tree) (n : ℕ) (args : List ExprId) (k : ℕ) → All (λ (a : ExprId). a.index < n) args → Here ts n args k (slice_get args k)
got ts n [] zero h = refl
got ts n [] (suc k) h = refl
got ts n (a ∷ args) zero h = (refl, All-head (λ (b : ExprId). b.index < n) a args h)
got ts n (a ∷ args) (suc k) h = again (slice_get args k) (got ts n args k (All-tail (λ (b : ExprId). b.index < n) a args h))
  where
    again : (o : Option ExprId) → Here ts n args k o → Here ts n (a ∷ args) (suc k) o
    again None p = p
    again (Some b) p = p

pub parts_listed : (ts : List Tree) (e : ExprId) (f : Sym) (s : Sort) (args : List ExprId) → tree_of ts e ≡ App f s (of_list (trees_at ts args)) → parts_of (tree_of ts e) ≡ trees_at ts args
parts_listed ts e f s args h = ap parts_of h ∙ to_list-of_list (trees_at ts args)

pub argument_got : (ts : List Tree) (e : ExprId) (k : ℕ) (f : Sym) (s : Sort) (args : List ExprId) (o : Option ExprId) → IsIn ts e → (tree_of ts e ≡ App f s (of_list (trees_at ts args))) × All (λ (a : ExprId). a.index < e.index) args → slice_get args k ≡ o → IsArgument ts e k o
argument_got ts e k f s args o inside h g = by o (subst (Here ts e.index args k) g (got ts e.index args k h.1))
  where
    same : parts_of (tree_of ts e) ≡ trees_at ts args
    same = parts_listed ts e f s args h.0

    by : (o : Option ExprId) → Here ts e.index args k o → IsArgument ts e k o
    by None p = ap (drop k) same ∙ p
    by (Some a) p = (ap (drop k) same ∙ (p.0 ∙ ap (λ xs. tree_of ts a ∷ drop (suc k) xs) (sym same)), (let l = p.1 in omega arith))
