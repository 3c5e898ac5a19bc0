-- The loop over the tokens of trees, and what it comes to for spelled trees.
use Rattle.std.proofs.Common.{◌≡◌, ℕ, Bool, true, false, ◌&&◌, List, [], ◌∷◌, ◌++◌, All, Option, Some, None, Result, Ok, Err, IfOk, refl, sym, ap, subst, ◌∙◌, append-nil, append_assoc, arith}
use Rattle.alg_terms.specs.declared.symbols.Sym.{Sym}
use Rattle.alg_terms.specs.Tree.{Tree, Trees, Nil, Cons, Lit as literal, Var as variable, App as node}
use Rattle.alg_expr.specs.declared.ids.ExprId.{ExprId}
use Rattle.alg_expr.specs.Arena.{Extends}
use Rattle.alg_expr.proofs.ArenaLaws.{Extends-self, Extends-then}
use Rattle.alg_expr.specs.Ids.{trees_at, IsIn}
use Rattle.alg_law.specs.Declarations.{Declaration}
use Rattle.alg_certificate.specs.Tokens.{Tok, Blank, Close, Semi, Open, Word, read_token}
use Rattle.alg_certificate.specs.Lexed.{Lexed, tokens}
use Rattle.alg_certificate.proofs.TokenLaws.{next_some, next_none, tokens_complete}
use Rattle.alg_certificate.proofs.ApartLaws.{Separated}
use Rattle.alg_certificate.proofs.Walkable.{trees_apart, items_quiet}
use Rattle.alg_certificate.specs.Words.{symbol_bytes}
use Rattle.alg_certificate.specs.Spelling.{Item, tree, word, semicolon, bytes, spell, spell_all, spell_items, TreeFits, TreesFit}
use Rattle.alg_certificate_lines.specs.Kept.{kept_symbol}
use Rattle.alg_certificate_lines.specs.Known.{has_sort, has_symbol, known, all_known, tokens_known}
use Rattle.alg_certificate_lines.specs.Typed.{typed_all}
use Rattle.alg_certificate_lines.specs.Steps.{all_good}
use Rattle.alg_certificate_lines.specs.declared.faults.LineFault.{LineFault}
use Rattle.alg_certificate_lines.specs.declared.faults.LineFault.TheVariants as fault
use Rattle.alg_certificate_lines.specs.Taking.{Opened, taken, go_on, all_taken, newest}
use Rattle.alg_certificate_lines.specs.Adding.{Takes, Flagged, MakesAll, ReadsTrees, AreWords}
use Rattle.alg_certificate_lines.proofs.Naming.{sort_is, symbol_is}
use Rattle.alg_certificate_lines.proofs.KnownLaws.{known_more, known_end}
use Rattle.alg_certificate_lines.proofs.TakingLaws.{taken_more, taken_end, then_all, trees_taken}

pub record Taken (ds : List Declaration) (old now : List Tree) (all left : List ℕ) (es : List ExprId) (os : List (Sym × ℕ)) : Type 0 where
  pub keeps : Extends old now
  pub inside : All (IsIn now) es
  pub same : all_taken ds (tokens all).0 [] [] ≡ all_taken ds (tokens left).0 (trees_at now es) (newest os)

pub taken_begun : (ds : List Declaration) (ts : List Tree) (all : List ℕ) (es : List ExprId) (os : List (Sym × ℕ)) → es ≡ [] → os ≡ [] → Taken ds ts ts all all es os
taken_begun ds ts all es os e f = record {
  keeps = Extends-self ts;
  inside = subst (λ x. All (IsIn ts) x) (sym e) (λ k d l. absurd (omega (arith, l)));
  same = ap (λ x. all_taken ds (tokens all).0 x []) (ap (trees_at ts) (sym e)) ∙ ap (λ x. all_taken ds (tokens all).0 (trees_at ts es) x) (ap newest (sym f));
}

one_step : (ds : List Declaration) (left : List ℕ) (t : Tok) (rest : List ℕ) (ts : List Tree) (os : Opened) → read_token left ≡ Some (t, rest) → all_taken ds (tokens left).0 ts os ≡ go_on (taken ds t ts os) (all_taken ds (tokens rest).0)
one_step ds left t rest ts os e = ap (λ (x : Lexed). all_taken ds x.0 ts os) (next_some left t rest e) ∙ taken_more ds t (tokens rest).0 ts os

pub taken_on : (ds : List Declaration) (old now new : List Tree) (all left : List ℕ) (t : Tok) (rest : List ℕ) (es fs : List ExprId) (os ps : List (Sym × ℕ)) → Taken ds old now all left es os → read_token left ≡ Some (t, rest) → Extends now new
    → All (IsIn new) fs × (taken ds t (trees_at now es) (newest os) ≡ Some (trees_at new fs, newest ps)) → Taken ds old new all rest fs ps
taken_on ds old now new all left t rest es fs os ps h r x k = record {
  keeps = Extends-then old now new h.keeps x;
  inside = k.0;
  same = h.same ∙ (one_step ds left t rest (trees_at now es) (newest os) r ∙ ap (λ o. go_on o (all_taken ds (tokens rest).0)) k.1);
}

pub taken_over : (ds : List Declaration) (old now : List Tree) (all left : List ℕ) (es : List ExprId) (os : List (Sym × ℕ)) → Taken ds old now all left es os → read_token left ≡ None → all_taken ds (tokens all).0 [] [] ≡ Some (trees_at now es)
unfolding all_taken
taken_over ds old now all left es os h r = h.same ∙ ap (λ (x : Lexed). all_taken ds x.0 (trees_at now es) (newest os)) (next_none left r)

-- a fault of a token is that of the trees
pub taken_fault : (ds : List Declaration) (old now new : List Tree) (all left : List ℕ) (t : Tok) (rest : List ℕ) (es fs : List ExprId) (os : List (Sym × ℕ)) (ps : Opened) (r : Result (Unit {0}) LineFault) (f : LineFault) → Taken ds old now all left es os → read_token left ≡ Some (t, rest)
    → r ≡ Err f → Takes new fs ps (taken ds t (trees_at now es) (newest os)) r → MakesAll ds new (all_taken ds (tokens all).0 [] []) (Err f)
taken_fault ds old now new all left t rest es fs os ps r f h e d k = by_fault f (subst (Takes new fs ps (taken ds t (trees_at now es) (newest os))) d k)
  where
    by_fault : (g : LineFault) → Takes new fs ps (taken ds t (trees_at now es) (newest os)) (Err g) → MakesAll ds new (all_taken ds (tokens all).0 [] []) (Err g)
    by_fault fault.BadName x = x
    by_fault fault.BadSort x = h.same ∙ (one_step ds left t rest (trees_at now es) (newest os) e ∙ ap (λ o. go_on o (all_taken ds (tokens rest).0)) x)
    by_fault fault.NoInstance x = x
    by_fault fault.Memory x = x

-- what spelled trees name
and_assoc : (a b c : Bool) → (a && (b && c)) ≡ ((a && b) && c)
and_assoc true b c = refl
and_assoc false b c = refl

node_names : (ds : List Declaration) (ts : Trees) (rest : List Tok) → tokens_known ds (spell_all ts ++ Close ∷ rest) ≡ (all_known ds ts && tokens_known ds (Close ∷ rest)) → tokens_known ds ((spell_all ts ++ Close ∷ []) ++ rest) ≡ (all_known ds ts && tokens_known ds rest)
node_names ds ts rest h = ap (tokens_known ds) (append_assoc (spell_all ts) (Close ∷ []) rest) ∙ (h ∙ ap (λ b. all_known ds ts && b) (known_more ds Close rest))

mutual
  tree_names : (ds : List Declaration) (t : Tree) (rest : List Tok) → TreeFits t → tokens_known ds (spell t ++ rest) ≡ (known ds t && tokens_known ds rest)
  tree_names ds (literal s n) rest f = known_more ds _ rest ∙ ap (λ o. has_sort ds o && tokens_known ds rest) (sort_is s f.0)
  tree_names ds (variable k s) rest f = known_more ds _ rest
  tree_names ds (node g s ts) rest f =
      known_more ds (Open (symbol_bytes g)) ((spell_all ts ++ Close ∷ []) ++ rest)
      ∙ (ap (λ o. has_symbol ds o && tokens_known ds ((spell_all ts ++ Close ∷ []) ++ rest)) (symbol_is g f.0)
      ∙ (ap (λ b. has_symbol ds (kept_symbol g) && b) (node_names ds ts rest (trees_names ds ts (Close ∷ rest) f.2))
      ∙ and_assoc (has_symbol ds (kept_symbol g)) (all_known ds ts) (tokens_known ds rest)))

  trees_names : (ds : List Declaration) (ts : Trees) (rest : List Tok) → TreesFit ts → tokens_known ds (spell_all ts ++ rest) ≡ (all_known ds ts && tokens_known ds rest)
  trees_names ds Nil rest f = refl
  trees_names ds (Cons t ts) rest f =
      known_more ds Blank ((spell t ++ spell_all ts) ++ rest)
      ∙ (ap (tokens_known ds) (append_assoc (spell t) (spell_all ts) rest)
      ∙ (tree_names ds t (spell_all ts ++ rest) f.0
      ∙ (ap (λ b. known ds t && b) (trees_names ds ts rest f.1)
      ∙ and_assoc (known ds t) (all_known ds ts) (tokens_known ds rest))))

-- words behind trees are passed over
words_apart : (is : List Item) → AreWords is → Separated (spell_items is)
words_apart [] w = tt
words_apart (tree t ∷ is) w = absurd w
words_apart (word v ∷ is) w = (tt, tt, (w.0, items_quiet is, words_apart is w.1))
words_apart (semicolon ∷ is) w = (tt, tt, (tt, tt, words_apart is w))

words_known : (ds : List Declaration) (is : List Item) → AreWords is → tokens_known ds (spell_items is) ≡ true
words_known ds [] w = known_end ds
words_known ds (tree t ∷ is) w = absurd w
words_known ds (word v ∷ is) w = known_more ds Blank _ ∙ (known_more ds (Word v) (spell_items is) ∙ words_known ds is w.1)
words_known ds (semicolon ∷ is) w = known_more ds Blank _ ∙ (known_more ds Semi (spell_items is) ∙ words_known ds is w)

words_taken : (ds : List Declaration) (is : List Item) (ts : List Tree) (os : Opened) → AreWords is → all_taken ds (spell_items is) ts os ≡ Some ts
words_taken ds [] ts os w = taken_end ds ts os
words_taken ds (tree t ∷ is) ts os w = absurd w
words_taken ds (word v ∷ is) ts os w = taken_more ds Blank _ ts os ∙ (taken_more ds (Word v) (spell_items is) ts os ∙ words_taken ds is ts os w.1)
words_taken ds (semicolon ∷ is) ts os w = taken_more ds Blank _ ts os ∙ (taken_more ds Semi (spell_items is) ts os ∙ words_taken ds is ts os w)

spelled_tokens : (ts : Trees) (is : List Item) → TreesFit ts → AreWords is → tokens (bytes (spell_all ts ++ spell_items is)) ≡ (spell_all ts ++ spell_items is, [])
spelled_tokens ts is f w = tokens_complete (spell_all ts ++ spell_items is) (trees_apart ts (spell_items is) f (items_quiet is) (words_apart is w))

and_true : (b : Bool) → (b && true) ≡ b
and_true true = refl
and_true false = refl

pub names_before : (ds : List Declaration) (ts : Trees) (is : List Item) (text : List ℕ) → TreesFit ts → AreWords is → bytes (spell_all ts ++ spell_items is) ≡ text → tokens_known ds (tokens text).0 ≡ all_known ds ts
names_before ds ts is text f w e =
    ap (λ x. tokens_known ds (tokens x).0) (sym e)
    ∙ (ap (λ (x : Lexed). tokens_known ds x.0) (spelled_tokens ts is f w)
    ∙ (trees_names ds ts (spell_items is) f ∙ (ap (λ b. all_known ds ts && b) (words_known ds is w) ∙ and_true (all_known ds ts))))

alone : (ts : Trees) (text : List ℕ) → bytes (spell_all ts) ≡ text → bytes (spell_all ts ++ spell_items []) ≡ text
alone ts text e = ap bytes (append-nil (spell_all ts)) ∙ e

pub names_of : (ds : List Declaration) (ts : Trees) (text : List ℕ) → TreesFit ts → bytes (spell_all ts) ≡ text → tokens_known ds (tokens text).0 ≡ all_known ds ts
names_of ds ts text f e = names_before ds ts [] text f tt (alone ts text e)

whole : (ds : List Declaration) (is : List Item) (o : Option (List Tree)) → AreWords is → then_all o (λ vs. all_taken ds (spell_items is) ([] ++ vs) []) ≡ o
whole ds is None w = refl
whole ds is (Some vs) w = words_taken ds is vs [] w

built_of : (ds : List Declaration) (ts : Trees) (is : List Item) (text : List ℕ) → TreesFit ts → AreWords is → bytes (spell_all ts ++ spell_items is) ≡ text → all_known ds ts ≡ true → all_taken ds (tokens text).0 [] [] ≡ typed_all ds ts
built_of ds ts is text f w e k =
    ap (λ x. all_taken ds (tokens x).0 [] []) (sym e)
    ∙ (ap (λ (x : Lexed). all_taken ds x.0 [] []) (spelled_tokens ts is f w)
    ∙ (trees_taken ds ts (spell_items is) [] [] f k ∙ whole ds is (typed_all ds ts) w))

pub read_before : (ds : List Declaration) (new : List Tree) (ts : Trees) (is : List Item) (text : List ℕ) (r : Result Flagged LineFault) → TreesFit ts → AreWords is → bytes (spell_all ts ++ spell_items is) ≡ text → tokens_known ds (tokens text).0 ≡ true
    → MakesAll ds new (all_taken ds (tokens text).0 [] []) r → ReadsTrees ds new ts r
read_before ds new ts is text r f w e k m = by_result r (subst (λ o. MakesAll ds new o r) (built_of ds ts is text f w e known_all) m)
  where
    known_all : all_known ds ts ≡ true
    known_all = sym (names_before ds ts is text f w e) ∙ k

    by_result : (x : Result Flagged LineFault) → MakesAll ds new (typed_all ds ts) x → ReadsTrees ds new ts x
    by_result (Ok p) h = (known_all, h.0, h.1)
    by_result (Err fault.BadName) h = absurd h
    by_result (Err fault.BadSort) h = (known_all, h)
    by_result (Err fault.NoInstance) h = h
    by_result (Err fault.Memory) h = known_all

pub read_of : (ds : List Declaration) (new : List Tree) (ts : Trees) (text : List ℕ) (r : Result Flagged LineFault) → TreesFit ts → bytes (spell_all ts) ≡ text → tokens_known ds (tokens text).0 ≡ true → MakesAll ds new (all_taken ds (tokens text).0 [] []) r → ReadsTrees ds new ts r
read_of ds new ts text r f e k m = read_before ds new ts [] text r f tt (alone ts text e) k m

pub taken_next : (ds : List Declaration) (old now new : List Tree) (all left : List ℕ) (t : Tok) (rest : List ℕ) (es fs : List ExprId) (os ps : List (Sym × ℕ)) (r : Result (Unit {0}) LineFault) (u : Unit {0}) → Taken ds old now all left es os → read_token left ≡ Some (t, rest) → Extends now new
    → r ≡ Ok u → Takes new fs (newest ps) (taken ds t (trees_at now es) (newest os)) r → Taken ds old new all rest fs ps
taken_next ds old now new all left t rest es fs os ps r u h e x d k = taken_on ds old now new all left t rest es fs os ps h e x (subst (Takes new fs (newest ps) (taken ds t (trees_at now es) (newest os))) d k)

pub ids_inside : (ds : List Declaration) (new : List Tree) (o : Option (List Tree)) (r : Result Flagged LineFault) → MakesAll ds new o r → IfOk r (λ x. All (IsIn new) x.0)
ids_inside ds new o (Ok p) h = h.0
ids_inside ds new o (Err f) h = tt

pub flag_told : (ds : List Declaration) (new : List Tree) (o : Option (List Tree)) (r : Result Flagged LineFault) → MakesAll ds new o r → IfOk r (λ x. x.1 ≡ all_good ds (trees_at new x.0))
flag_told ds new o (Ok p) h = h.2
flag_told ds new o (Err f) h = tt
