-- A stack of ids that stand for trees, whose top is the last.
use Rattle.std.proofs.Common.{◌≡◌, ℕ, suc, ◌<◌, ◌≤◌, List, [], ◌∷◌, ◌++◌, get_or, take, drop, drop-cons, length, map, refl, ap, sym, ◌∙◌, subst, arith, All, true, false, Option, Some, None}
use mathlib.Core.List.{reverse}
use Rattle.std.proofs.lemmas.List.{reverse-append, take-map, drop-map}
use Rattle.std.proofs.lemmas.List.Elements.{All-head, All-tail}
use Rattle.std.proofs.Math.ListN.{get_or-append}
use Rattle.std.proofs.Common.{length-append}
use Rattle.alg_terms.specs.declared.sorts.Sort.{Sort}
use Rattle.alg_terms.specs.declared.sorts.Sort.TheVariants.{Nat}
use Rattle.alg_terms.specs.declared.symbols.Sym.{Sym}
use Rattle.alg_terms.specs.Symbols.{places}
use Rattle.alg_terms.specs.Tree.{Tree, Lit, App, Trees, Nil, Cons, of_list, sort_of_tree}
use Rattle.alg_expr.specs.declared.ids.ExprId.{ExprId}
use Rattle.alg_expr.specs.declared.ids.Stmt.{Stmt}
use Rattle.alg_terms.specs.declared.symbols.Place.{Place}
use Rattle.alg_expr.specs.Ids.{tree_of, trees_at, IsIn}
use Rattle.alg_expr.specs.Arena.{Extends, GrowsBy}
use Rattle.alg_expr.proofs.ArenaLaws.{GrowsBy-Extends, tree_of-extends, IsIn-extends}
use Rattle.alg_expr.specs.Applying.{arity_fits, sorts_fit, sorts_at}
use Rattle.alg_law.specs.declared.patterns.Pat.{Pat as Node}
use Rattle.alg_law.specs.declared.patterns.Pat.TheVariants as node
use Rattle.alg_law.specs.declared.patterns.PatStmt.{PatStmt}
use Rattle.alg_law.specs.declared.marks.Mark.TheVariants.{Good}
use Rattle.alg_law.specs.Declarations.{Declaration}
use Rattle.alg_law.specs.WellSorted.{head_mark, marks_of, sorts_of, IsWellSorted}
use Rattle.alg_law.proofs.WellSortedLaws.{worse-parts}
use Rattle.alg_law.specs.Patterns.{Pat, sort_for, fill, fills, fill_statement}
use Rattle.alg_law.specs.LawRows.{parts, put, patterns, first_of, pattern_of}
use Rattle.alg_kernel.specs.Filling.{Stands, AllStand, IsEntryIn, IsFilled, put_tree, filled}
use Rattle.alg_kernel.proofs.TreeLemmas.{trees_at-extends}
use Rattle.alg_kernel.proofs.SideLemmas.{head-fits}

pub reverse-push : {X : Type 0} (xs : List X) (x : X) → reverse (xs ++ x ∷ []) ≡ x ∷ reverse xs
reverse-push xs x = reverse-append xs (x ∷ [])

module _ (ds : List Declaration) (old new : List Tree) (grown : Extends old new) where
  pub Stands-extends : (o : Option ExprId) (t : Tree) → Stands ds old o t → Stands ds new o t
  Stands-extends None t h = h
  Stands-extends (Some e) t h = (IsIn-extends old new e grown h.0, tree_of-extends old new e grown h.0 ∙ h.1)

  pub AllStand-extends : (os : List (Option ExprId)) (ts : List Tree) → AllStand ds old os ts → AllStand ds new os ts
  AllStand-extends [] [] h = tt
  AllStand-extends [] (t ∷ ts) h = h
  AllStand-extends (o ∷ os) [] h = h
  AllStand-extends (o ∷ os) (t ∷ ts) h = (Stands-extends o t h.0, AllStand-extends os ts h.1)

pub entry-extends : (old new : List Tree) (o : Option ExprId) → Extends old new → IsEntryIn old o → IsEntryIn new o
entry-extends old new None x h = tt
entry-extends old new (Some e) x h = IsIn-extends old new e x h

pub entries-extends : (old new : List Tree) (os : List (Option ExprId)) → Extends old new → All (IsEntryIn old) os → All (IsEntryIn new) os
entries-extends old new os x h = λ k d l. entry-extends old new (get_or os k d) x (h k d l)

pub entries-front : (ts : List Tree) (xs ys : List (Option ExprId)) → All (IsEntryIn ts) (xs ++ ys) → All (IsEntryIn ts) xs
entries-front ts xs ys h = λ k d l. subst (λ (o : Option ExprId). IsEntryIn ts o) (get_or-append xs ys d k l) (h k d (omega (arith, length-append xs ys, l)))

pub entries-last : (ts : List Tree) (xs : List (Option ExprId)) (o : Option ExprId) → All (IsEntryIn ts) (xs ++ o ∷ []) → IsEntryIn ts o
entries-last ts [] o h = All-head (IsEntryIn ts) o [] h
entries-last ts (x ∷ xs) o h = entries-last ts xs o (All-tail (IsEntryIn ts) x (xs ++ o ∷ []) h)

-- a tree that can't be made isn't well sorted
sorts_of-list : (ts : List Tree) (es : List ExprId) → sorts_of (of_list (trees_at ts es)) ≡ sorts_at ts es
sorts_of-list ts [] = refl
sorts_of-list ts (e ∷ es) = ap (λ ss. sort_of_tree (tree_of ts e) ∷ ss) (sorts_of-list ts es)

good-fits : (ds : List Declaration) (f : Sym) (s : Sort) (ts : List Tree) (es : List ExprId) → IsWellSorted ds (App f s (of_list (trees_at ts es))) → (arity_fits f (length (sorts_at ts es)) ≡ true) × (sorts_fit f s (sorts_at ts es) ≡ true)
good-fits ds f s ts es g =
    let h = worse-parts (head_mark ds f s (sorts_of (of_list (trees_at ts es)))) (marks_of ds (of_list (trees_at ts es))) g in
    let k : head_mark ds f s (sorts_at ts es) ≡ Good = ap (head_mark ds f s) (sym (sorts_of-list ts es)) ∙ h.0 in
    head-fits ds f s (sorts_at ts es) k

pub bad-arity : (ds : List Declaration) (f : Sym) (s : Sort) (ts : List Tree) (es : List ExprId) → arity_fits f (length (sorts_at ts es)) ≡ false → IsWellSorted ds (App f s (of_list (trees_at ts es))) → ⊥
bad-arity ds f s ts es e g = let h = (good-fits ds f s ts es g).0 in cc

pub bad-sorts : (ds : List Declaration) (f : Sym) (s : Sort) (ts : List Tree) (es : List ExprId) → sorts_fit f s (sorts_at ts es) ≡ false → IsWellSorted ds (App f s (of_list (trees_at ts es))) → ⊥
bad-sorts ds f s ts es e g = let h = (good-fits ds f s ts es g).1 in cc

-- a tree over one that isn't well sorted
pub first-bad : (ds : List Declaration) (f : Sym) (s : Sort) (t : Tree) (ts : Trees) → (IsWellSorted ds t → ⊥) → IsWellSorted ds (App f s (Cons t ts)) → ⊥
first-bad ds f s t ts n g =
    let h = worse-parts (head_mark ds f s (sorts_of (Cons t ts))) (marks_of ds (Cons t ts)) g in
    n (worse-parts _ (marks_of ds ts) h.1).0

pub second-bad : (ds : List Declaration) (f : Sym) (s : Sort) (t u : Tree) (ts : Trees) → (IsWellSorted ds u → ⊥) → IsWellSorted ds (App f s (Cons t (Cons u ts))) → ⊥
second-bad ds f s t u ts n g =
    let h = worse-parts (head_mark ds f s (sorts_of (Cons t (Cons u ts)))) (marks_of ds (Cons t (Cons u ts))) g in
    let k = worse-parts _ (marks_of ds (Cons u ts)) h.1 in
    n (worse-parts _ (marks_of ds ts) k.1).0

module _ (ds : List Declaration) (old new : List Tree) (grown : Extends old new) (f : Sym) (s : Sort) (ts : List Tree) (o : Option ExprId) where
  -- one tree was taken
  pub one-put : (es rest : List (Option ExprId)) (a : Option ExprId) → es ≡ rest ++ a ∷ [] → ((t : Tree) → Stands ds old a t → Stands ds new o (App f s (Cons t Nil))) → AllStand ds old (reverse es) ts
      → Stands ds new o (App f s (of_list (take 1 ts))) × AllStand ds new (reverse rest) (drop 1 ts)
  one-put es rest a e h k = by-shape ts (subst (λ (x : List (Option ExprId)). AllStand ds old x ts) (ap reverse e ∙ reverse-push rest a) k)
    where
      by-shape : (us : List Tree) → AllStand ds old (a ∷ reverse rest) us → Stands ds new o (App f s (of_list (take 1 us))) × AllStand ds new (reverse rest) (drop 1 us)
      by-shape [] m = absurd m
      by-shape (u ∷ us) m = (h u m.0, AllStand-extends ds old new grown (reverse rest) us m.1)

  -- two trees were taken
  pub two-put : (es mid rest : List (Option ExprId)) (a b : Option ExprId) → es ≡ mid ++ a ∷ [] → mid ≡ rest ++ b ∷ [] → ((t u : Tree) → Stands ds old a t → Stands ds old b u → Stands ds new o (App f s (Cons t (Cons u Nil)))) → AllStand ds old (reverse es) ts
      → Stands ds new o (App f s (of_list (take 2 ts))) × AllStand ds new (reverse rest) (drop 2 ts)
  two-put es mid rest a b e e2 h k = by-shape ts (subst (λ (x : List (Option ExprId)). AllStand ds old x ts) (ap reverse e ∙ reverse-push mid a ∙ ap (λ (x : List (Option ExprId)). a ∷ x) (ap reverse e2 ∙ reverse-push rest b)) k)
    where
      by-shape : (us : List Tree) → AllStand ds old (a ∷ b ∷ reverse rest) us → Stands ds new o (App f s (of_list (take 2 us))) × AllStand ds new (reverse rest) (drop 2 us)
      by-shape [] m = absurd m
      by-shape (u ∷ []) m = absurd m.1
      by-shape (u ∷ v ∷ us) m = (h u v m.0 m.1.0, AllStand-extends ds old new grown (reverse rest) us m.1.1)

-- the filled nodes are the filled patterns
module _ (ls : List ℕ) (s : Sort) (xs : List Tree) where
  fills-parts : (ps : List Pat) → fills ls s xs (parts ps) ≡ of_list (map (fill ls s xs) ps)
  fills-parts [] = refl
  fills-parts (p ∷ ps) = ap (Cons (fill ls s xs p)) (fills-parts ps)

  put-fill : (n : Node) (ps : List Pat) → map (fill ls s xs) (put n ps) ≡ put_tree ls s xs n (map (fill ls s xs) ps)
  put-fill (node.Letter i) ps = refl
  put-fill (node.Lit p n) ps = refl
  put-fill (node.App f p) ps =
      let a : fills ls s xs (parts (take (length (places f)) ps)) ≡ of_list (take (length (places f)) (map (fill ls s xs) ps)) = fills-parts (take (length (places f)) ps) ∙ ap of_list (sym (take-map (fill ls s xs) (length (places f)) ps)) in
      let b : map (fill ls s xs) (drop (length (places f)) ps) ≡ drop (length (places f)) (map (fill ls s xs) ps) = sym (drop-map (fill ls s xs) (length (places f)) ps) in
      λ i. App f (sort_for s p) (a i) ∷ b i

  pub filled-patterns : (ns : List Node) → filled ls s xs ns ≡ map (fill ls s xs) (patterns ns)
  filled-patterns [] = refl
  filled-patterns (n ∷ ns) = ap (put_tree ls s xs n) (filled-patterns ns) ∙ sym (put-fill n (patterns ns))

  first-filled : (ps : List Pat) → get_or (map (fill ls s xs) ps) 0 (Lit Nat 0) ≡ fill ls s xs (first_of ps)
  first-filled [] = refl
  first-filled (p ∷ ps) = refl

  pub first_side : (p : PatStmt) → get_or (filled ls s xs p.nodes.now) 0 (Lit Nat 0) ≡ fill ls s xs (first_of (patterns p.nodes.now))
  first_side p = ap (λ (ts : List Tree). get_or ts 0 (Lit Nat 0)) (filled-patterns p.nodes.now) ∙ first-filled (patterns p.nodes.now)

  pub second_side : (p : PatStmt) → get_or (drop 1 (filled ls s xs p.nodes.now)) 0 (Lit Nat 0) ≡ fill ls s xs (first_of (drop 1 (patterns p.nodes.now)))
  second_side p =
      ap (λ (ts : List Tree). get_or (drop 1 ts) 0 (Lit Nat 0)) (filled-patterns p.nodes.now)
      ∙ ap (λ (ts : List Tree). get_or ts 0 (Lit Nat 0)) (drop-map (fill ls s xs) 1 (patterns p.nodes.now))
      ∙ first-filled (drop 1 (patterns p.nodes.now))

-- one more node is placed
pub filled-before : (ds : List Declaration) (old mid new : List Tree) (nodes : List Node) (i j : ℕ) (d : Node) (ls : List ℕ) (s : Sort) (with : List ExprId) (before after : List (Option ExprId)) → j ≡ suc i → j ≤ length nodes → Extends old mid → All (IsIn old) with
    → AllStand ds mid (reverse before) (filled ls s (trees_at old with) (drop j nodes))
    → ((ts : List Tree) → AllStand ds mid (reverse before) ts → AllStand ds new (reverse after) (put_tree ls s (trees_at mid with) (get_or nodes i d) ts))
    → AllStand ds new (reverse after) (filled ls s (trees_at old with) (drop i nodes))
filled-before ds old mid new nodes i j d ls s with before after n l x h e f =
    let m : i < length nodes = omega (arith, n, l) in
    let k : drop i nodes ≡ get_or nodes i d ∷ drop (suc i) nodes = drop-cons nodes i d m in
    let g : filled ls s (trees_at old with) (drop j nodes) ≡ filled ls s (trees_at old with) (drop (suc i) nodes) = ap (λ a. filled ls s (trees_at old with) (drop a nodes)) n in
    let same : trees_at mid with ≡ trees_at old with = trees_at-extends old mid with x h in
    let put : AllStand ds new (reverse after) (put_tree ls s (trees_at mid with) (get_or nodes i d) (filled ls s (trees_at old with) (drop (suc i) nodes))) = f _ (subst (AllStand ds mid (reverse before)) g e) in
    rw k (subst (λ (ys : List Tree). AllStand ds new (reverse after) (put_tree ls s ys (get_or nodes i d) (filled ls s (trees_at old with) (drop (suc i) nodes)))) same put)

-- a push
pub AllStand-push : (ds : List Declaration) (old new : List Tree) (es after : List (Option ExprId)) (o : Option ExprId) (t : Tree) (ts : List Tree) → Extends old new → after ≡ es ++ o ∷ [] → Stands ds new o t → AllStand ds old (reverse es) ts → AllStand ds new (reverse after) (t ∷ ts)
AllStand-push ds old new es after o t ts x e h k =
    subst (λ (os : List (Option ExprId)). AllStand ds new os (t ∷ ts)) (sym (ap reverse e ∙ reverse-push es o)) (h, AllStand-extends ds old new x (reverse es) ts k)

pub lit-push : (ds : List Declaration) (old new : List Tree) (es after : List (Option ExprId)) (e : ExprId) (t : Tree) (ts : List Tree) → GrowsBy old new e t → after ≡ es ++ Some e ∷ [] → AllStand ds old (reverse es) ts → AllStand ds new (reverse after) (t ∷ ts)
lit-push ds old new es after e t ts g is k = AllStand-push ds old new es after (Some e) t ts (GrowsBy-Extends old new e t g) is (g.here, g.tree) k

-- a symbol without places
pub zero-put : (ds : List Declaration) (old new : List Tree) → Extends old new → (f : Sym) (s : Sort) (ts : List Tree) (o : Option ExprId) (es : List (Option ExprId)) (ps : List Place) → ps ≡ places f → length ps ≡ 0 → Stands ds new o (App f s Nil) → AllStand ds old (reverse es) ts
    → Stands ds new o (App f s (of_list (take (length (places f)) ts))) × AllStand ds new (reverse es) (drop (length (places f)) ts)
zero-put ds old new x f s ts o es ps e n h k =
    let count : length (places f) ≡ 0 = ap length (sym e) ∙ n in
    rw count (h, AllStand-extends ds old new x (reverse es) ts k)

-- two tops are the sides of a filled pattern
pub sides-filled : (ds : List Declaration) (t0 t1 t2 t3 : List Tree) (p : PatStmt) (ls : List ℕ) (s : Sort) (with : List ExprId) (v w z : List (Option ExprId)) (l r : Option ExprId) (q : Option Stmt) → AllStand ds t1 (reverse v) (filled ls s (trees_at t0 with) p.nodes.now)
    → ((ts : List Tree) → AllStand ds t1 (reverse v) ts → Stands ds t2 l (get_or ts 0 (Lit Nat 0)) × AllStand ds t2 (reverse w) (drop 1 ts))
    → ((ts : List Tree) → AllStand ds t2 (reverse w) ts → Stands ds t3 r (get_or ts 0 (Lit Nat 0)) × AllStand ds t3 (reverse z) (drop 1 ts))
    → Extends t2 t3
    → ((a b : Tree) → Stands ds t3 l a → Stands ds t3 r b → IsFilled ds t3 q (record { rel = p.rel; sort = sort_for s p.sort; lhs = a; rhs = b }))
    → IsFilled ds t3 q (fill_statement ls s (trees_at t0 with) (pattern_of p))
sides-filled ds t0 t1 t2 t3 p ls s with v w z l r q built first second x join =
    let a = first (filled ls s (trees_at t0 with) p.nodes.now) built in
    let b = second (drop 1 (filled ls s (trees_at t0 with) p.nodes.now)) a.1 in
    let left : Stands ds t3 l (fill ls s (trees_at t0 with) (first_of (patterns p.nodes.now))) = subst (Stands ds t3 l) (first_side ls s (trees_at t0 with) p) (Stands-extends ds t2 t3 x l _ a.0) in
    let right : Stands ds t3 r (fill ls s (trees_at t0 with) (first_of (drop 1 (patterns p.nodes.now)))) = subst (Stands ds t3 r) (second_side ls s (trees_at t0 with) p) b.0 in
    join _ _ left right
