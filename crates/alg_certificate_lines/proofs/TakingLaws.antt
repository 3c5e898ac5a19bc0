-- The trees that the tokens of trees build are the trees with their sorts.
use Rattle.std.proofs.Common.{◌≡◌, ℕ, Bool, true, false, List, [], ◌∷◌, ◌++◌, length, take, drop, Option, Some, None, refl, sym, ap, ◌∙◌, append_assoc, append-nil, take_at, drop_at, arith, le-leb, length-append, if◌then◌else◌}
use Rattle.std.proofs.lemmas.Bool.{and_parts}
use Rattle.std.proofs.lemmas.Option.{none-some}
use Rattle.alg_terms.specs.declared.sorts.Sort.{Sort}
use Rattle.alg_terms.specs.declared.sorts.Sort.TheVariants as sort
use Rattle.alg_terms.specs.declared.symbols.Sym.{Sym}
use Rattle.alg_terms.specs.declared.symbols.Sym.TheVariants as symbol
use Rattle.alg_terms.specs.Tree.{Tree, Trees, Nil, Cons, Lit as literal, Var as variable, App as node}
use Rattle.alg_law.specs.Declarations.{Declaration}
use Rattle.alg_certificate.specs.Words.{sort_bytes, symbol_bytes}
use Rattle.alg_certificate.specs.Tokens.{Tok, Blank, Close, Open, Lit, Var}
use Rattle.alg_certificate.specs.Spelling.{spell, spell_all, TreeFits, TreesFit}
use Rattle.alg_certificate_lines.specs.Kept.{kept_sort, kept_symbol, numbered_sort, numbered_symbol}
use Rattle.alg_certificate_lines.specs.Words.{sort_named, symbol_named}
use Rattle.alg_certificate_lines.specs.Known.{has_sort, has_symbol, variable_sort, known, all_known}
use Rattle.alg_certificate_lines.specs.Typed.{node_of, then_node, variable_of_sort, both, typed, typed_all}
use Rattle.alg_certificate_lines.specs.Taking.{Opened, Built, with_tree, literal_in, opening, closing, taken, go_on, all_taken}
use Rattle.alg_certificate_lines.proofs.Naming.{sort_is, symbol_is}

-- what is known is kept
kept_by : (k : ℕ) (b : Bool) (x : Sym) → numbered_symbol (if◌then◌else◌ {A = Option ℕ} b (Some k) None) ≡ Some x → Some x ≡ Some (symbol.Apply k)
kept_by k true x e = sym e
kept_by k false x e = absurd (none-some _ e)

pub symbol_kept : (ds : List Declaration) (f : Sym) (o : Option Sym) → kept_symbol f ≡ o → has_symbol ds o ≡ true → kept_symbol f ≡ Some f
symbol_kept ds f None e h = cc
symbol_kept ds f (Some g) e h = same f e
  where
    same : (f : Sym) → kept_symbol f ≡ Some g → kept_symbol f ≡ Some f
    same symbol.Add d = refl
    same symbol.Mul d = refl
    same symbol.Neg d = refl
    same symbol.Sub d = refl
    same symbol.Inv d = refl
    same symbol.Div d = refl
    same symbol.Npow d = refl
    same symbol.Zpow d = refl
    same symbol.Nsmul d = refl
    same symbol.Zsmul d = refl
    same symbol.Abs d = refl
    same symbol.Min d = refl
    same symbol.Max d = refl
    same symbol.NatSub d = refl
    same symbol.IDiv d = refl
    same symbol.Mod d = refl
    same symbol.Gcd d = refl
    same symbol.Lcm d = refl
    same symbol.Fact d = refl
    same symbol.Choose d = refl
    same symbol.Fib d = refl
    same (symbol.Apply k) d = d ∙ kept_by k _ g d

sort_by : (k : ℕ) (b : Bool) (x : Sort) → numbered_sort (if◌then◌else◌ {A = Option ℕ} b (Some k) None) ≡ Some x → Some x ≡ Some (sort.Decl k)
sort_by k true x e = sym e
sort_by k false x e = absurd (none-some _ e)

pub sort_kept : (ds : List Declaration) (s : Sort) (o : Option Sort) → kept_sort s ≡ o → has_sort ds o ≡ true → kept_sort s ≡ Some s
sort_kept ds s None e h = cc
sort_kept ds s (Some r) e h = same s e
  where
    same : (s : Sort) → kept_sort s ≡ Some r → kept_sort s ≡ Some s
    same sort.Nat d = refl
    same sort.Int d = refl
    same sort.Rat d = refl
    same (sort.Decl k) d = d ∙ sort_by k _ r d

-- goes on with a list
abbrev pub then_all : Option (List Tree) → (List Tree → Option (List Tree)) → Option (List Tree)
then_all None k = None
then_all (Some ts) k = k ts

abbrev then_one : Option Tree → (Tree → Option (List Tree)) → Option (List Tree)
then_one None k = None
then_one (Some t) k = k t

placed : (o : Option Tree) (ts : List Tree) (os : Opened) (k : List Tree → Opened → Option (List Tree)) → go_on (with_tree ts os o) k ≡ then_one o (λ u. k (ts ++ u ∷ []) os)
placed None ts os k = refl
placed (Some t) ts os k = refl

split_both : (o : Option Tree) (p : Option (List Tree)) (ts : List Tree) (k : List Tree → Option (List Tree)) → then_one o (λ u. then_all p (λ us. k ((ts ++ u ∷ []) ++ us))) ≡ then_all (both o p) (λ us. k (ts ++ us))
split_both None p ts k = refl
split_both (Some t) None ts k = refl
split_both (Some t) (Some us) ts k = ap k (append_assoc ts (t ∷ []) us)

split_node : (ds : List Declaration) (f : Sym) (o : Option (List Tree)) (ts : List Tree) (os : Opened) (k : List Tree → Opened → Option (List Tree))
    → then_all o (λ us. go_on (closing ds (ts ++ us) ((f, length ts) ∷ os)) k) ≡ then_one (then_node ds f o) (λ u. k (ts ++ u ∷ []) os)
split_node ds f None ts os k = refl
split_node ds f (Some us) ts os k =
    ap (λ b. go_on (if◌then◌else◌ {A = Option Built} b (with_tree (take (length ts) (ts ++ us)) os (node_of ds f (drop (length ts) (ts ++ us)))) None) k) (le-leb (length ts) (length (ts ++ us)) (omega (arith, length-append ts us)))
    ∙ (ap (λ x. go_on (with_tree x os (node_of ds f (drop (length ts) (ts ++ us)))) k) (take_at ts us (length ts) refl)
    ∙ (ap (λ x. go_on (with_tree ts os (node_of ds f x)) k) (drop_at ts us (length ts) refl)
    ∙ placed (node_of ds f us) ts os k))

pub taken_more : (ds : List Declaration) (t : Tok) (toks : List Tok) (ts : List Tree) (os : Opened) → all_taken ds (t ∷ toks) ts os ≡ go_on (taken ds t ts os) (all_taken ds toks)
unfolding all_taken
taken_more ds t toks ts os = refl

pub taken_end : (ds : List Declaration) (ts : List Tree) (os : Opened) → all_taken ds [] ts os ≡ Some ts
unfolding all_taken
taken_end ds ts os = refl

mutual
  tree_taken : (ds : List Declaration) (t : Tree) (rest : List Tok) (ts : List Tree) (os : Opened) → TreeFits t → known ds t ≡ true → all_taken ds (spell t ++ rest) ts os ≡ then_one (typed ds t) (λ u. all_taken ds rest (ts ++ u ∷ []) os)
  tree_taken ds (literal s n) rest ts os f e =
      let named : sort_named (sort_bytes s) ≡ Some s = sort_is s f.0 ∙ sort_kept ds s (kept_sort s) refl e in
      taken_more ds (Lit (sort_bytes s) n) rest ts os ∙ ap (λ o. go_on (with_tree ts os (literal_in o n)) (all_taken ds rest)) named
  tree_taken ds (variable k s) rest ts os f e = taken_more ds (Var k) rest ts os ∙ placed (variable_of_sort k (variable_sort ds k)) ts os (all_taken ds rest)
  tree_taken ds (node g s us) rest ts os f e =
      let p = and_parts (has_symbol ds (kept_symbol g)) (all_known ds us) e in
      let named : symbol_named (symbol_bytes g) ≡ Some g = symbol_is g f.0 ∙ symbol_kept ds g (kept_symbol g) refl p.0 in
      ap (λ x. all_taken ds (Open (symbol_bytes g) ∷ x) ts os) (append_assoc (spell_all us) (Close ∷ []) rest)
      ∙ (taken_more ds (Open (symbol_bytes g)) (spell_all us ++ Close ∷ rest) ts os
      ∙ (ap (λ o. go_on (opening ts os o) (all_taken ds (spell_all us ++ Close ∷ rest))) named
      ∙ (trees_taken ds us (Close ∷ rest) ts ((g, length ts) ∷ os) f.2 p.1
      ∙ (ap (then_all (typed_all ds us)) (λ i vs. taken_more ds Close rest (ts ++ vs) ((g, length ts) ∷ os) i)
      ∙ split_node ds g (typed_all ds us) ts os (all_taken ds rest)))))

  pub trees_taken : (ds : List Declaration) (us : Trees) (rest : List Tok) (ts : List Tree) (os : Opened) → TreesFit us → all_known ds us ≡ true → all_taken ds (spell_all us ++ rest) ts os ≡ then_all (typed_all ds us) (λ vs. all_taken ds rest (ts ++ vs) os)
  trees_taken ds Nil rest ts os f e = ap (λ x. all_taken ds rest x os) (sym (append-nil ts))
  trees_taken ds (Cons u us) rest ts os f e =
      let p = and_parts (known ds u) (all_known ds us) e in
      ap (λ x. all_taken ds (Blank ∷ x) ts os) (append_assoc (spell u) (spell_all us) rest)
      ∙ (taken_more ds Blank (spell u ++ (spell_all us ++ rest)) ts os
      ∙ (tree_taken ds u (spell_all us ++ rest) ts os f.0 p.0
      ∙ (ap (then_one (typed ds u)) (λ i v. trees_taken ds us rest (ts ++ v ∷ []) os f.1 p.1 i)
      ∙ split_both (typed ds u) (typed_all ds us) ts (λ x. all_taken ds rest x os))))
