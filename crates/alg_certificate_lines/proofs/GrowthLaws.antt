-- Trees of ids while the arena grows.
use Rattle.std.proofs.Common.{◌≡◌, ℕ, ◌≤◌, ◌<◌, Bool, true, false, nat_le, List, [], ◌∷◌, ◌++◌, length, take, drop, All, Option, None, map, refl, sym, ap, ◌∙◌, arith, leb-true, le-leb, if◌then◌else◌}
use Rattle.std.proofs.lemmas.List.{drop-map, take-map, length-map}
use Rattle.std.proofs.lemmas.List.Elements.{All-head, All-tail, All-take}
use Rattle.alg_terms.specs.declared.symbols.Sym.{Sym}
use Rattle.alg_terms.specs.Tree.{Tree}
use Rattle.alg_expr.specs.declared.ids.ExprId.{ExprId}
use Rattle.alg_expr.specs.Arena.{Extends}
use Rattle.alg_expr.proofs.ArenaLaws.{IsIn-extends, tree_of-extends}
use Rattle.alg_expr.specs.Ids.{tree_of, trees_at, IsIn}
use Rattle.alg_law.specs.Declarations.{Declaration}
use Rattle.alg_certificate_lines.specs.Typed.{node_of}
use Rattle.alg_certificate_lines.specs.Taking.{Opened, Built, with_tree, closing, newest}

pub newest_push : {A : Type 0} (xs : List A) (x : A) → newest (xs ++ x ∷ []) ≡ x ∷ newest xs
newest_push [] x = refl
newest_push (y ∷ ys) x = ap (λ zs. zs ++ y ∷ []) (newest_push ys x)

pub trees_kept : (ts us : List Tree) (es : List ExprId) → Extends ts us → All (IsIn ts) es → trees_at us es ≡ trees_at ts es
trees_kept ts us [] x h = refl
trees_kept ts us (e ∷ es) x h =
    let a : tree_of us e ≡ tree_of ts e = tree_of-extends ts us e x (All-head (IsIn ts) e es h) in
    let b : trees_at us es ≡ trees_at ts es = trees_kept ts us es x (All-tail (IsIn ts) e es h) in
    λ i. a i ∷ b i

pub inside_kept : (ts us : List Tree) (es : List ExprId) → Extends ts us → All (IsIn ts) es → All (IsIn us) es
inside_kept ts us es x h = λ k d l. IsIn-extends ts us _ x (h k d l)

-- the node is closed over the trees from its first argument on
pub closing_at : (ds : List Declaration) (old new : List Tree) (f : Sym) (start : ℕ) (es : List ExprId) (os : Opened) → Extends old new → All (IsIn old) es → start ≤ length es
    → closing ds (trees_at old es) ((f, start) ∷ os) ≡ with_tree (trees_at new (take start es)) os (node_of ds f (trees_at old (drop start es)))
closing_at ds old new f start es os x h l =
    let test : nat_le start (length (trees_at old es)) ≡ true = le-leb _ _ (omega (arith, l, length-map es (tree_of old))) in
    let front : take start (trees_at old es) ≡ trees_at new (take start es) = take-map (tree_of old) start es ∙ sym (trees_kept old new (take start es) x (All-take (IsIn old) start es h)) in
    ap (λ b. if◌then◌else◌ {A = Option Built} b (with_tree (take start (trees_at old es)) os (node_of ds f (drop start (trees_at old es)))) None) test
    ∙ (ap (λ ts. with_tree ts os (node_of ds f (drop start (trees_at old es)))) front
    ∙ ap (λ ts. with_tree (trees_at new (take start es)) os (node_of ds f ts)) (drop-map (tree_of old) start es))

pub closing_past : (ds : List Declaration) (old : List Tree) (f : Sym) (start : ℕ) (es : List ExprId) (os : Opened) → length es < start → closing ds (trees_at old es) ((f, start) ∷ os) ≡ None
closing_past ds old f start es os l = past _ refl
  where
    past : (b : Bool) → nat_le start (length (trees_at old es)) ≡ b → if◌then◌else◌ {A = Option Built} b (with_tree (take start (trees_at old es)) os (node_of ds f (drop start (trees_at old es)))) None ≡ None
    past true e = absurd (omega (arith, l, leb-true _ _ e, length-map es (tree_of old)))
    past false e = refl
