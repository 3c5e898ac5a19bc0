-- What is written of trees is in range where what is left of them is.
use Rattle.std.proofs.Common.{◌≡◌, List, ◌∷◌, [], ◌++◌, All, Some, sym, subst}
use Rattle.std.proofs.lemmas.List.Elements.{All-cons, All-push, All-pop}
use Rattle.std.specs.Borrow.{Bor}
use Rattle.alg_terms.specs.declared.sorts.Sort.{Sort}
use Rattle.alg_terms.specs.declared.symbols.Sym.{Sym}
use Rattle.alg_terms.specs.Tree.{Tree, App, of_list}
use Rattle.alg_expr.specs.declared.ids.ExprId.{ExprId}
use Rattle.alg_expr.specs.Ids.{tree_of, trees_at}
use Rattle.alg_certificate.specs.Spelling.{SymbolFits}
use Rattle.alg_certificate.specs.InRange.{TreeInRange, TreesInRange}
use Rattle.alg_certificate.specs.Pending.{AreInRange}

in_range_last : (ts : List Tree) (nodes after : List (Bor (List ExprId))) (es : Bor (List ExprId))
    → after ≡ nodes ++ es ∷ [] → AreInRange ts after → AreInRange ts nodes × TreesInRange (of_list (trees_at ts es.now))
in_range_last ts nodes after es pushed p = All-pop (λ x. TreesInRange (of_list (trees_at ts x.now))) after nodes (Some es) pushed p

-- a node is begun
pub node_in_range : (ts : List Tree) (t : Tree) (f : Sym) (s : Sort) (es : Bor (List ExprId)) (nodes after : List (Bor (List ExprId)))
    → t ≡ App f s (of_list (trees_at ts es.now)) → SymbolFits f → after ≡ nodes ++ es ∷ [] → AreInRange ts after → TreeInRange t × AreInRange ts nodes
node_in_range ts t f s es nodes after same fits pushed p =
    let last = in_range_last ts nodes after es pushed p in
    (subst TreeInRange (sym same) (fits, last.1), last.0)

-- an argument is begun
pub more_in_range : (ts : List Tree) (e : ExprId) (es : Bor (List ExprId)) (left : List ExprId) (nodes after last : List (Bor (List ExprId)))
    → left ≡ e ∷ es.now → after ≡ nodes ++ es ∷ [] → (AreInRange ts last → TreeInRange (tree_of ts e) × AreInRange ts after)
    → AreInRange ts last → TreesInRange (of_list (trees_at ts left)) × AreInRange ts nodes
more_in_range ts e es left nodes after last same pushed begun p =
    let one = begun p in
    let two = in_range_last ts nodes after es pushed one.1 in
    (subst (λ xs. TreesInRange (of_list (trees_at ts xs))) (sym same) (one.0, two.1), two.0)

-- the last node went on
pub still_in_range : (ts : List Tree) (nodes before after : List (Bor (List ExprId))) (es : Bor (List ExprId)) (all : Tree)
    → nodes ≡ before ++ es ∷ [] → (AreInRange ts after → TreesInRange (of_list (trees_at ts es.now)) × AreInRange ts before)
    → (AreInRange ts nodes → TreeInRange all) → AreInRange ts after → TreeInRange all
still_in_range ts nodes before after es all popped went whole p =
    let rest = went p in
    whole (subst (AreInRange ts) (sym popped) (All-push (λ x. TreesInRange (of_list (trees_at ts x.now))) before es rest.1 rest.0))

-- a tree was written, of those that were left
pub trees_still_in_range : (ts : List Tree) (e : ExprId) (es left all : List ExprId)
    → left ≡ e ∷ es → TreeInRange (tree_of ts e) → (All TreeInRange (trees_at ts left) → All TreeInRange (trees_at ts all))
    → All TreeInRange (trees_at ts es) → All TreeInRange (trees_at ts all)
trees_still_in_range ts e es left all same one whole p =
    whole (subst (λ xs. All TreeInRange (trees_at ts xs)) (sym same) (All-cons TreeInRange (tree_of ts e) (trees_at ts es) one p))
