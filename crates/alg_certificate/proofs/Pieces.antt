-- What is pending, and how it is written.
use Rattle.std.proofs.Common.{◌≡◌, ℕ, ◌<◌, List, [], ◌∷◌, ◌++◌, length, All, Some, refl, sym, ap, subst, ◌∙◌, arith, append_assoc, append-nil, length-append}
use Rattle.std.proofs.lemmas.List.Elements.{All-push, All-pop}
use Rattle.std.specs.Borrow.{Bor}
use Rattle.alg_terms.specs.declared.sorts.Sort.{Sort}
use Rattle.alg_terms.specs.declared.symbols.Sym.{Sym}
use Rattle.alg_terms.specs.Tree.{Tree, App, of_list}
use Rattle.alg_certificate.specs.Words.{symbol_bytes}
use Rattle.alg_expr.specs.declared.ids.ExprId.{ExprId}
use Rattle.alg_expr.specs.Ids.{IsIn, tree_of, trees_at}
use Rattle.alg_certificate.specs.Tokens.{Tok, Blank, Close, token_bytes}
use Rattle.alg_certificate.specs.Spelling.{bytes, spell, spell_all, Item, semicolon, numbers, spell_items, trees_before}
use Rattle.alg_certificate.specs.Pending.{pending, rest_of_node, AreInside}

pub bytes_append : (xs ys : List Tok) → bytes (xs ++ ys) ≡ bytes xs ++ bytes ys
bytes_append [] ys = refl
bytes_append (x ∷ xs) ys = ap (λ r. token_bytes x ++ r) (bytes_append xs ys) ∙ sym (append_assoc (token_bytes x) (bytes xs) (bytes ys))

pub pending_push : (ts : List Tree) (nodes : List (Bor (List ExprId))) (es : Bor (List ExprId)) → pending ts (nodes ++ es ∷ []) ≡ rest_of_node ts es.now ++ pending ts nodes
pending_push ts [] es = sym (append-nil (rest_of_node ts es.now))
pending_push ts (o ∷ nodes) es = ap (λ x. x ++ rest_of_node ts o.now) (pending_push ts nodes es) ∙ append_assoc (rest_of_node ts es.now) (pending ts nodes) (rest_of_node ts o.now)

-- an argument, and those that are left after it
pub rest_more : (ts : List Tree) (e : ExprId) (es : List ExprId) → rest_of_node ts (e ∷ es) ≡ 32 ∷ (bytes (spell (tree_of ts e)) ++ rest_of_node ts es)
rest_more ts e es =
    ap bytes (append_assoc (Blank ∷ spell (tree_of ts e)) (spell_all (of_list (trees_at ts es))) (Close ∷ []))
    ∙ ap (λ x. 32 ∷ x) (bytes_append (spell (tree_of ts e)) (spell_all (of_list (trees_at ts es)) ++ Close ∷ []))

-- a node is begun
pub written_node : (ts : List Tree) (t : Tree) (f : Sym) (s : Sort) (es : Bor (List ExprId)) (nodes after : List (Bor (List ExprId))) (old a b : List ℕ)
    → t ≡ App f s (of_list (trees_at ts es.now)) → a ≡ old ++ 40 ∷ [] → b ≡ a ++ symbol_bytes f → after ≡ nodes ++ es ∷ [] → b ++ pending ts after ≡ old ++ (bytes (spell t) ++ pending ts nodes)
written_node ts t f s es nodes after old a b same one two pushed =
    let rest : List ℕ = rest_of_node ts es.now in
    let more : List ℕ = pending ts nodes in
    ap (λ x. b ++ x) (ap (pending ts) pushed ∙ pending_push ts nodes es)
    ∙ (ap (λ x. x ++ (rest ++ more)) two
    ∙ (append_assoc a (symbol_bytes f) (rest ++ more)
    ∙ (ap (λ x. x ++ (symbol_bytes f ++ (rest ++ more))) one
    ∙ (append_assoc old (40 ∷ []) (symbol_bytes f ++ (rest ++ more))
    ∙ (ap (λ x. old ++ 40 ∷ x) (sym (append_assoc (symbol_bytes f) rest more))
    ∙ ap (λ x. old ++ (bytes (spell x) ++ more)) (sym same))))))

-- an argument is begun
pub written_more : (ts : List Tree) (e : ExprId) (es : Bor (List ExprId)) (left : List ExprId) (nodes after last : List (Bor (List ExprId))) (old a b : List ℕ)
    → left ≡ e ∷ es.now → after ≡ nodes ++ es ∷ [] → a ≡ old ++ 32 ∷ [] → b ++ pending ts last ≡ a ++ (bytes (spell (tree_of ts e)) ++ pending ts after) → b ++ pending ts last ≡ old ++ (rest_of_node ts left ++ pending ts nodes)
written_more ts e es left nodes after last old a b same pushed one two =
    let tree : List ℕ = bytes (spell (tree_of ts e)) in
    let rest : List ℕ = rest_of_node ts es.now in
    let more : List ℕ = pending ts nodes in
    two
    ∙ (ap (λ x. a ++ (tree ++ x)) (ap (pending ts) pushed ∙ pending_push ts nodes es)
    ∙ (ap (λ x. x ++ (tree ++ (rest ++ more))) one
    ∙ (append_assoc old (32 ∷ []) (tree ++ (rest ++ more))
    ∙ (ap (λ x. old ++ 32 ∷ x) (sym (append_assoc tree rest more))
    ∙ (ap (λ x. old ++ (x ++ more)) (sym (rest_more ts e es.now))
    ∙ ap (λ x. old ++ (rest_of_node ts x ++ more)) (sym same))))))

pub inside_push : (ts : List Tree) (nodes after : List (Bor (List ExprId))) (es : Bor (List ExprId)) → AreInside ts nodes → All (IsIn ts) es.now → after ≡ nodes ++ es ∷ [] → AreInside ts after
inside_push ts nodes after es p q e = subst (AreInside ts) (sym e) (All-push (λ x. All (IsIn ts) x.now) nodes es p q)

-- the last node is taken
pub popped : (ts : List Tree) (nodes before : List (Bor (List ExprId))) (es : Bor (List ExprId)) → nodes ≡ before ++ es ∷ [] → pending ts nodes ≡ rest_of_node ts es.now ++ pending ts before
popped ts nodes before es e = ap (pending ts) e ∙ pending_push ts before es

pub inside_last : (ts : List Tree) (nodes before : List (Bor (List ExprId))) (es : Bor (List ExprId)) → AreInside ts nodes → nodes ≡ before ++ es ∷ [] → AreInside ts before × All (IsIn ts) es.now
inside_last ts nodes before es p e = All-pop (λ x. All (IsIn ts) x.now) nodes before (Some es) e p

-- less is left, since something was written
pub smaller : (ts : List Tree) (nodes before after : List (Bor (List ExprId))) (es : Bor (List ExprId)) (old new : List ℕ) → nodes ≡ before ++ es ∷ [] → new ++ pending ts after ≡ old ++ (rest_of_node ts es.now ++ pending ts before) → length old < length new → length (pending ts after) < length (pending ts nodes)
smaller ts nodes before after es old new e written grown =
    omega (arith, ap length (popped ts nodes before es e), ap length written, length-append new (pending ts after), length-append old (rest_of_node ts es.now ++ pending ts before), grown)

pub still : (ts : List Tree) (nodes before after : List (Bor (List ExprId))) (es : Bor (List ExprId)) (old new all : List ℕ) → nodes ≡ before ++ es ∷ [] → new ++ pending ts after ≡ old ++ (rest_of_node ts es.now ++ pending ts before) → old ++ pending ts nodes ≡ all → new ++ pending ts after ≡ all
still ts nodes before after es old new all e written same = written ∙ (ap (λ x. old ++ x) (sym (popped ts nodes before es e)) ∙ same)

abbrev pub trees_text : List Tree → List ℕ
trees_text ts = bytes (spell_items (trees_before ts []))

-- a tree behind its blank, and the trees after it
pub trees_more : (t : Tree) (ts : List Tree) → trees_text (t ∷ ts) ≡ 32 ∷ (bytes (spell t) ++ trees_text ts)
trees_more t ts = ap (λ x. 32 ∷ x) (bytes_append (spell t) (spell_items (trees_before ts [])))

pub trees_then : (ts : List Tree) (is : List Item) → bytes (spell_items (trees_before ts is)) ≡ trees_text ts ++ bytes (spell_items is)
trees_then [] is = refl
trees_then (t ∷ ts) is =
    ap (λ x. 32 ∷ x) (bytes_append (spell t) (spell_items (trees_before ts is)) ∙ (ap (λ x. bytes (spell t) ++ x) (trees_then ts is) ∙ sym (append_assoc (bytes (spell t)) (trees_text ts) (bytes (spell_items is)))))
    ∙ ap (λ x. x ++ bytes (spell_items is)) (sym (trees_more t ts))

pub trees_step : (ts : List Tree) (e : ExprId) (es left : List ExprId) (old a b start : List ℕ) → left ≡ e ∷ es → a ≡ old ++ 32 ∷ [] → b ≡ a ++ bytes (spell (tree_of ts e)) → old ++ trees_text (trees_at ts left) ≡ start → b ++ trees_text (trees_at ts es) ≡ start
trees_step ts e es left old a b start same one two before =
    let tree : List ℕ = bytes (spell (tree_of ts e)) in
    let more : List ℕ = trees_text (trees_at ts es) in
    ap (λ x. x ++ more) two
    ∙ (append_assoc a tree more
    ∙ (ap (λ x. x ++ (tree ++ more)) one
    ∙ (append_assoc old (32 ∷ []) (tree ++ more)
    ∙ (ap (λ x. old ++ x) (sym (trees_more (tree_of ts e) (trees_at ts es)))
    ∙ (ap (λ x. old ++ trees_text (trees_at ts x)) (sym same) ∙ before)))))

-- trees, a semicolon and numbers
pub instance_text : (ts : List Tree) (ns : List ℕ) (old a b c : List ℕ) → a ≡ old ++ trees_text ts → b ≡ a ++ 32 ∷ 59 ∷ [] → c ≡ b ++ bytes (spell_items (numbers ns)) → c ≡ old ++ bytes (spell_items (trees_before ts (semicolon ∷ numbers ns)))
instance_text ts ns old a b c one two three =
    let more : List ℕ = bytes (spell_items (numbers ns)) in
    three
    ∙ (ap (λ x. x ++ more) two
    ∙ (append_assoc a (32 ∷ 59 ∷ []) more
    ∙ (ap (λ x. x ++ 32 ∷ 59 ∷ more) one
    ∙ (append_assoc old (trees_text ts) (32 ∷ 59 ∷ more)
    ∙ ap (λ x. old ++ x) (sym (trees_then ts (semicolon ∷ numbers ns)))))))
