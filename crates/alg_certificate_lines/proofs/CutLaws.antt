-- The pieces of a line, where the base has what it names.
use Rattle.std.proofs.Common.{◌≡◌, ℕ, ◌≤◌, Bool, true, false, ◌&&◌, List, [], ◌∷◌, ◌++◌, All, Option, Some, None, Result, Ok, Err, IfOk, decimal, refl, sym, ap, subst, ◌∙◌, arith, append_assoc, append-nil, ne_eqb, ◌<◌, if◌then◌else◌}
use Rattle.std.proofs.lemmas.Bool.{and_parts, both_ways}
use Rattle.std.proofs.lemmas.Option.{none-some}
use Rattle.std.proofs.lemmas.List.Elements.{All-head, All-tail, All-nil, All-cons}
use Rattle.std.specs.Str.{IsUtf8}
use Rattle.std.proofs.lemmas.Str.{IsUtf8-from_ascii}
use Rattle.std.proofs.lemmas.Str.Ascii.{IsAscii-from_all}
use Rattle.alg_terms.specs.declared.sorts.Sort.{Sort}
use Rattle.alg_terms.specs.declared.symbols.Sym.{Sym}
use Rattle.alg_terms.specs.declared.relations.Rel.{Rel}
use Rattle.alg_terms.specs.Tree.{Tree, Trees, Nil, Cons, Lit as literal, Var as variable, App as node, of_list}
use Rattle.alg_expr.specs.declared.ids.ExprId.{ExprId}
use Rattle.alg_expr.specs.Ids.{IsIn, trees_at}
use Rattle.alg_law.specs.Declarations.{Declaration}
use Rattle.alg_proof.specs.Names.{is_name_byte, are_name_bytes, IsName}
use Rattle.alg_proof.specs.declared.lines.BridgeKind.{BridgeKind}
use Rattle.alg_proof.specs.declared.lines.BridgeKind.TheVariants as bridge
use Rattle.alg_proof.specs.declared.lines.ComputeHead.{ComputeHead}
use Rattle.alg_proof.specs.declared.lines.ComputeHead.TheVariants as head
use Rattle.alg_proof.specs.declared.lines.Line.{Line}
use Rattle.alg_proof.specs.Lines.{IsLineIn}
use Rattle.alg_proof.specs.Steps.{Step, LitRel}
use Rattle.alg_certificate.specs.Numbers.{max_number}
use Rattle.alg_certificate.proofs.NumberLaws.{some_is}
use Rattle.alg_certificate.proofs.Wordlike.{sort_word, symbol_word, number_word, name_word}
use Rattle.alg_certificate.specs.Words.{sort_bytes, symbol_bytes, relation_bytes, bridge_bytes, head_bytes}
use Rattle.alg_certificate.specs.Tokens.{Tok, Blank, Close, is_word, all_word, is_some_word}
use Rattle.alg_certificate.specs.Spelling.{Item, tree, word, semicolon, bytes, spell, spell_all, spell_items, trees_before, numbers, IsInRange, SortFits, SymbolFits, HeadFits, TreeFits, TreesFit}
use Rattle.alg_certificate_lines.specs.declared.faults.LineFault.{LineFault}
use Rattle.alg_certificate_lines.specs.declared.faults.LineFault.TheVariants as fault
use Rattle.alg_certificate_lines.specs.Kept.{kept_sort, kept_symbol, kept_head, named_head}
use Rattle.alg_certificate_lines.specs.Known.{has_sort, has_symbol}
use Rattle.alg_certificate_lines.specs.Following.{next_number, behind_semicolon}
use Rattle.alg_certificate_lines.specs.Adding.{AreWords}
use Rattle.alg_certificate_lines.specs.Steps.{LineRead, TreesRead, over_one, over_tree, over_trees, if_named, has_head, trees_read, step_read, GivesLine, GivesTrees}
use Rattle.alg_certificate_lines.specs.Texts.{sort_there, symbol_there, head_there, sort_before_two, literals_of, literals_there, over_literals, relation_before, relation_of_word, relation_cut, over_relation, symbol_before, symbol_of_word, symbol_cut, sort_before, sort_of_word, sort_cut, head_before, computation_of_word, computation_cut, bridge_before, bridge_of_word, bridge_cut, row_before, row_with_sort, row_of_word, row_cut, row_step}
use Rattle.alg_certificate_lines.proofs.Naming.{sort_is, symbol_is, head_is, relation_is, bridge_is}
use Rattle.alg_certificate_lines.proofs.GivenLaws.{relation_word}
use Rattle.alg_certificate_lines.proofs.TakingLaws.{sort_kept, symbol_kept}
use Rattle.alg_certificate_lines.proofs.ItemLaws.{word_first, number_first, literals_spelled}

-- a test that decides
abbrev pub if_there : {A : Type 0} → Bool → A → Option A
if_there {A} b x = if◌then◌else◌ {A = Option A} b (Some x) None

pub there : {A : Type 0} (new : List Tree) (b : Bool) (x y : A) (good : LineRead) (r : Result Line LineFault) → Some x ≡ if_there b y → (x ≡ y → GivesLine new good r) → GivesLine new (if_named b good) r
there new true x y good r e h = h (some_is x y e)
there new false x y good r e h = absurd (none-some _ (sym e))

pub not_there : {A : Type 0} (b : Bool) (y : A) (good : LineRead) → None ≡ if_there b y → if_named b good ≡ Err fault.BadName
not_there true y good e = absurd (none-some _ e)
not_there false y good e = refl

kept_if : {A : Type 0} (b : Bool) (o : Option A) (x : A) → (b ≡ true → o ≡ Some x) → if◌then◌else◌ {A = Option A} b o None ≡ if_there b x
kept_if true o x h = h refl
kept_if false o x h = refl

sort_there_is : (ds : List Declaration) (s : Sort) → SortFits s → sort_there ds (sort_bytes s) ≡ if_there (has_sort ds (kept_sort s)) s
sort_there_is ds s f = ap (λ o. if◌then◌else◌ {A = Option Sort} (has_sort ds o) o None) (sort_is s f) ∙ kept_if (has_sort ds (kept_sort s)) (kept_sort s) s (λ h. sort_kept ds s (kept_sort s) refl h)

symbol_there_is : (ds : List Declaration) (f : Sym) → SymbolFits f → symbol_there ds (symbol_bytes f) ≡ if_there (has_symbol ds (kept_symbol f)) f
symbol_there_is ds f g = ap (λ o. if◌then◌else◌ {A = Option Sym} (has_symbol ds o) o None) (symbol_is f g) ∙ kept_if (has_symbol ds (kept_symbol f)) (kept_symbol f) f (λ h. symbol_kept ds f (kept_symbol f) refl h)

head_has : (ds : List Declaration) (o : Option Sym) → has_head ds (named_head o) ≡ has_symbol ds o
head_has ds None = refl
head_has ds (Some f) = refl

head_kept : (ds : List Declaration) (h : ComputeHead) → has_head ds (kept_head h) ≡ true → kept_head h ≡ Some h
head_kept ds (head.Named f) e = ap named_head (symbol_kept ds f (kept_symbol f) refl (sym (head_has ds (kept_symbol f)) ∙ e))
head_kept ds head.Dvd e = refl

head_there_is : (ds : List Declaration) (h : ComputeHead) → HeadFits h → head_there ds (head_bytes h) ≡ if_there (has_head ds (kept_head h)) h
head_there_is ds h f = ap (λ o. if◌then◌else◌ {A = Option ComputeHead} (has_head ds o) o None) (head_is h f) ∙ kept_if (has_head ds (kept_head h)) (kept_head h) h (head_kept ds h)

head_word : (h : ComputeHead) → HeadFits h → is_some_word (head_bytes h) ≡ true
head_word (head.Named f) g = symbol_word f g
head_word head.Dvd g = refl

bridge_word : (k : BridgeKind) → is_some_word (bridge_bytes k) ≡ true
bridge_word bridge.Smul = refl
bridge_word bridge.Zsmul = refl
bridge_word bridge.Zpow = refl

-- literals
literals_if : (f : Sort → ℕ → ℕ → Step) (b : Bool) (s : Sort) (m n : ℕ) → over_literals f (sort_before_two m n (if_there b s)) ≡ if_named b (Ok (f s m n))
literals_if f true s m n = refl
literals_if f false s m n = refl

pub literals_is : (ds : List Declaration) (f : Sort → ℕ → ℕ → Step) (s : Sort) (m n : ℕ) (text : List ℕ) → SortFits s → m ≤ max_number → n ≤ max_number → bytes (spell_items (word (sort_bytes s) ∷ numbers (m ∷ n ∷ []))) ≡ text
    → over_literals f (literals_there ds text) ≡ if_named (has_sort ds (kept_sort s)) (Ok (f s m n))
literals_is ds f s m n text g h k e =
    ap (λ o. over_literals f (literals_of ds o)) (literals_spelled (sort_bytes s) m n text (sort_word s g) h k e)
    ∙ (ap (λ o. over_literals f (sort_before_two m n o)) (sort_there_is ds s g) ∙ literals_if f (has_sort ds (kept_sort s)) s m n)

pub relation_read_is : (ds : List Declaration) (r : Rel) (s : Sort) (m n : ℕ) (text : List ℕ) → SortFits s → m ≤ max_number → n ≤ max_number → bytes (spell_items (word (relation_bytes r) ∷ word (sort_bytes s) ∷ numbers (m ∷ n ∷ []))) ≡ text
    → over_relation ds (relation_cut text) ≡ if_named (has_sort ds (kept_sort s)) (Ok (LitRel r s m n))
relation_read_is ds r s m n text g h k e =
    let more : List ℕ = bytes (spell_items (word (sort_bytes s) ∷ numbers (m ∷ n ∷ []))) in
    ap (λ x. over_relation ds (relation_cut x)) (sym e)
    ∙ (ap (λ o. over_relation ds (relation_of_word o)) (word_first (relation_bytes r) (word (sort_bytes s) ∷ numbers (m ∷ n ∷ [])) (relation_word r))
    ∙ (ap (λ o. over_relation ds (relation_before o more)) (relation_is r) ∙ literals_is ds (LitRel r) s m n more g h k refl))

-- symbols, sorts, heads
symbol_if : (b : Bool) (f : Sym) (rest : List ℕ) → symbol_before (if_there b f) rest ≡ if_there b (f, rest)
symbol_if true f rest = refl
symbol_if false f rest = refl

pub symbol_cut_is : (ds : List Declaration) (f : Sym) (is : List Item) (text : List ℕ) → SymbolFits f → bytes (spell_items (word (symbol_bytes f) ∷ is)) ≡ text → symbol_cut ds text ≡ if_there (has_symbol ds (kept_symbol f)) (f, bytes (spell_items is))
symbol_cut_is ds f is text g e =
    ap (symbol_cut ds) (sym e)
    ∙ (ap (symbol_of_word ds) (word_first (symbol_bytes f) is (symbol_word f g))
    ∙ (ap (λ o. symbol_before o (bytes (spell_items is))) (symbol_there_is ds f g) ∙ symbol_if (has_symbol ds (kept_symbol f)) f (bytes (spell_items is))))

sort_if : (b : Bool) (s : Sort) (rest : List ℕ) → sort_before (if_there b s) rest ≡ if_there b (s, rest)
sort_if true s rest = refl
sort_if false s rest = refl

sort_cut_is : (ds : List Declaration) (s : Sort) (is : List Item) → SortFits s → sort_cut ds (bytes (spell_items (word (sort_bytes s) ∷ is))) ≡ if_there (has_sort ds (kept_sort s)) (s, bytes (spell_items is))
sort_cut_is ds s is f =
    ap (sort_of_word ds) (word_first (sort_bytes s) is (sort_word s f))
    ∙ (ap (λ o. sort_before o (bytes (spell_items is))) (sort_there_is ds s f) ∙ sort_if (has_sort ds (kept_sort s)) s (bytes (spell_items is)))

both_if : (a b : Bool) (h : ComputeHead) (s : Sort) (rest : List ℕ) → head_before (if_there a h) (if_there b (s, rest)) ≡ if_there (a && b) (h, s, rest)
both_if true true h s rest = refl
both_if true false h s rest = refl
both_if false b h s rest = refl

pub computation_cut_is : (ds : List Declaration) (h : ComputeHead) (s : Sort) (is : List Item) (text : List ℕ) → HeadFits h → SortFits s → bytes (spell_items (word (head_bytes h) ∷ word (sort_bytes s) ∷ is)) ≡ text
    → computation_cut ds text ≡ if_there (has_head ds (kept_head h) && has_sort ds (kept_sort s)) (h, s, bytes (spell_items is))
computation_cut_is ds h s is text f g e =
    let more : List ℕ = bytes (spell_items (word (sort_bytes s) ∷ is)) in
    ap (computation_cut ds) (sym e)
    ∙ (ap (computation_of_word ds) (word_first (head_bytes h) (word (sort_bytes s) ∷ is) (head_word h f))
    ∙ (ap (λ o. head_before o (sort_cut ds more)) (head_there_is ds h f)
    ∙ (ap (head_before (if_there (has_head ds (kept_head h)) h)) (sort_cut_is ds s is g)
    ∙ both_if (has_head ds (kept_head h)) (has_sort ds (kept_sort s)) h s (bytes (spell_items is)))))

pub bridge_cut_is : (k : BridgeKind) (n : ℕ) (is : List Item) (text : List ℕ) → n ≤ max_number → bytes (spell_items (word (bridge_bytes k) ∷ word (decimal n) ∷ is)) ≡ text → bridge_cut text ≡ Some (k, n, bytes (spell_items is))
bridge_cut_is k n is text f e =
    let more : List ℕ = bytes (spell_items (word (decimal n) ∷ is)) in
    ap bridge_cut (sym e)
    ∙ (ap bridge_of_word (word_first (bridge_bytes k) (word (decimal n) ∷ is) (bridge_word k))
    ∙ (ap (λ o. bridge_before o (next_number more)) (bridge_is k) ∙ ap (bridge_before (Some k)) (number_first n is f)))

-- the first semicolon
past : (w rest : List ℕ) → all_word w ≡ true → behind_semicolon (w ++ rest) ≡ behind_semicolon rest
past [] rest e = refl
past (c ∷ cs) rest e =
    let p = and_parts (is_word c) (all_word cs) e in
    ap (λ b. if◌then◌else◌ {A = Option (List ℕ)} b (Some (cs ++ rest)) (behind_semicolon (cs ++ rest))) (ne_eqb c 59 (λ same. both_ways (is_word c) (ap is_word same) p.0)) ∙ past cs rest p.1

past_word : (w rest : List ℕ) → is_some_word w ≡ true → behind_semicolon (w ++ rest) ≡ behind_semicolon rest
past_word w rest e = past w rest (and_parts _ (all_word w) e).1

mutual
  tree_past : (t : Tree) (rest : List Tok) → TreeFits t → behind_semicolon (bytes (spell t ++ rest)) ≡ behind_semicolon (bytes rest)
  tree_past (literal s n) rest f =
      ap behind_semicolon (append_assoc (sort_bytes s) (58 ∷ decimal n) (bytes rest))
      ∙ (past_word (sort_bytes s) (58 ∷ (decimal n ++ bytes rest)) (sort_word s f.0) ∙ past_word (decimal n) (bytes rest) (number_word n f.1))
  tree_past (variable k s) rest f = past_word (decimal k) (bytes rest) (number_word k f)
  tree_past (node g s us) rest f =
      past_word (symbol_bytes g) (bytes ((spell_all us ++ Close ∷ []) ++ rest)) (symbol_word g f.0)
      ∙ (ap (λ x. behind_semicolon (bytes x)) (append_assoc (spell_all us) (Close ∷ []) rest) ∙ trees_past us (Close ∷ rest) f.2)

  trees_past : (ts : Trees) (rest : List Tok) → TreesFit ts → behind_semicolon (bytes (spell_all ts ++ rest)) ≡ behind_semicolon (bytes rest)
  trees_past Nil rest f = refl
  trees_past (Cons t ts) rest f =
      ap (λ x. behind_semicolon (bytes x)) (append_assoc (spell t) (spell_all ts) rest)
      ∙ (tree_past t (spell_all ts ++ rest) f.0 ∙ trees_past ts rest f.1)

semicolon_is : (ts : List Tree) (is : List Item) → All TreeFits ts → behind_semicolon (bytes (spell_items (trees_before ts (semicolon ∷ is)))) ≡ Some (bytes (spell_items is))
semicolon_is [] is f = refl
semicolon_is (t ∷ ts) is f = tree_past t (spell_items (trees_before ts (semicolon ∷ is))) (All-head TreeFits t ts f) ∙ semicolon_is ts is (All-tail TreeFits t ts f)

row_if : (b : Bool) (n : List ℕ) (s : Sort) (trees from : List ℕ) → behind_semicolon trees ≡ Some from → row_with_sort n (if_there b (s, trees)) ≡ if_there b (n, s, trees, from)
row_if true n s trees from e = ap (row_before n s trees) e
row_if false n s trees from e = refl

pub row_cut_is : (ds : List Declaration) (n : List ℕ) (s : Sort) (ts : List Tree) (is : List Item) (text : List ℕ) → IsName n → SortFits s → All TreeFits ts → bytes (spell_items (word n ∷ word (sort_bytes s) ∷ trees_before ts (semicolon ∷ is))) ≡ text
    → row_cut ds text ≡ if_there (has_sort ds (kept_sort s)) (n, s, bytes (spell_items (trees_before ts (semicolon ∷ is))), bytes (spell_items is))
row_cut_is ds n s ts is text f g h e =
    let items : List Item = trees_before ts (semicolon ∷ is) in
    ap (row_cut ds) (sym e)
    ∙ (ap (row_of_word ds) (word_first n (word (sort_bytes s) ∷ items) (name_word n f))
    ∙ (ap (row_with_sort n) (sort_cut_is ds s items g)
    ∙ row_if (has_sort ds (kept_sort s)) n s (bytes (spell_items items)) (bytes (spell_items is)) (semicolon_is ts is h)))

before_is : (ts : List Tree) (is : List Item) → spell_items (trees_before ts is) ≡ spell_all (of_list ts) ++ spell_items is
before_is [] is = refl
before_is (t ∷ ts) is = ap (λ x. Blank ∷ (spell t ++ x)) (before_is ts is) ∙ ap (λ x. Blank ∷ x) (sym (append_assoc (spell t) (spell_all (of_list ts)) (spell_items is)))

pub before_text : (ts : List Tree) (is : List Item) (text : List ℕ) → bytes (spell_items (trees_before ts is)) ≡ text → bytes (spell_all (of_list ts) ++ spell_items is) ≡ text
before_text ts is text e = ap bytes (sym (before_is ts is)) ∙ e

pub all_fit : (ts : List Tree) → All TreeFits ts → TreesFit (of_list ts)
all_fit [] f = tt
all_fit (t ∷ ts) f = (All-head TreeFits t ts f, all_fit ts (All-tail TreeFits t ts f))

pub numbers_words : (ns : List ℕ) → All IsInRange ns → AreWords (numbers ns)
numbers_words [] f = tt
numbers_words (n ∷ ns) f = (number_word n (All-head IsInRange n ns f), numbers_words ns (All-tail IsInRange n ns f))

-- a line over trees that were read
pub tree_line : (new : List Tree) (f : Tree → Step) (o : TreesRead) (es : List ExprId) (r : Result Line LineFault) → GivesTrees new o (Ok es) → (All (IsIn new) es → GivesLine new (over_one f (trees_at new es)) r) → GivesLine new (over_tree f o) r
tree_line new f o es r g h = subst (λ x. GivesLine new (over_tree f x) r) (sym g.1) (h g.0)

pub tree_fault : (new : List Tree) (f : Tree → Step) (o : TreesRead) (e : LineFault) → GivesTrees new o (Err e) → GivesLine new (over_tree f o) (Err e)
tree_fault new f o fault.BadName g = ap (over_tree f) g
tree_fault new f o fault.BadSort g = ap (over_tree f) g
tree_fault new f o fault.NoInstance g = ap (over_tree f) g
tree_fault new f o fault.Memory g = tt

pub trees_line : (new : List Tree) (f : List Tree → Step) (o : TreesRead) (es : List ExprId) (r : Result Line LineFault) → GivesTrees new o (Ok es) → (All (IsIn new) es → GivesLine new (Ok (f (trees_at new es))) r) → GivesLine new (over_trees f o) r
trees_line new f o es r g h = subst (λ x. GivesLine new (over_trees f x) r) (sym g.1) (h g.0)

pub trees_fault : (new : List Tree) (f : List Tree → Step) (o : TreesRead) (e : LineFault) → GivesTrees new o (Err e) → GivesLine new (over_trees f o) (Err e)
trees_fault new f o fault.BadName g = ap (over_trees f) g
trees_fault new f o fault.BadSort g = ap (over_trees f) g
trees_fault new f o fault.NoInstance g = ap (over_trees f) g
trees_fault new f o fault.Memory g = tt

pub alone : (t : Tree) (text : List ℕ) → bytes (spell_items (tree t ∷ [])) ≡ text → bytes (spell_all (Cons t Nil) ++ spell_items []) ≡ text
alone t text e = ap bytes (append-nil (spell_all (Cons t Nil))) ∙ e

-- the line of a row
pub row_read_is : (ds : List Declaration) (lemma : Bool) (n : List ℕ) (s : Sort) (ts : List Tree) (is : List ℕ) → step_read ds (row_step lemma n s ts is) ≡ if_named (has_sort ds (kept_sort s)) (over_trees (λ us. row_step lemma n s us is) (trees_read ds (of_list ts)))
row_read_is ds true n s ts is = refl
row_read_is ds false n s ts is = refl

-- a name is text
low_byte : (b : ℕ) → is_name_byte b ≡ true → b < 128
low_byte b e = grind arith

low_bytes : (w : List ℕ) → are_name_bytes w ≡ true → All (λ b. b < 128) w
low_bytes [] e = All-nil (λ b. b < 128)
low_bytes (b ∷ bs) e = let p = and_parts (is_name_byte b) (are_name_bytes bs) e in All-cons (λ c. c < 128) b bs (low_byte b p.0) (low_bytes bs p.1)

name_bytes : (w : List ℕ) → IsName w → are_name_bytes w ≡ true
name_bytes [] e = cc
name_bytes (b ∷ bs) e = e

pub name_text : (w : List ℕ) → IsName w → IsUtf8 w
name_text w e = IsUtf8-from_ascii w (IsAscii-from_all w (low_bytes w (name_bytes w e)))

pub line_inside : (new : List Tree) (o : LineRead) (r : Result Line LineFault) → GivesLine new o r → IfOk r (λ x. IsLineIn new x)
line_inside new o (Ok x) h = h.0
line_inside new o (Err f) h = tt
