-- How a certificate's lines are spelled: a word, and items after it, each behind one blank.
use Rattle.std.specs.Prelude.{ℕ, ◌≤◌, ℤ, unsigned_abs, ⊤, List, [], ◌∷◌, ◌++◌, All, codes, decimal}
use Rattle.alg_terms.specs.declared.sorts.Sort.{Sort}
use Rattle.alg_terms.specs.declared.sorts.Sort.TheVariants as sort
use Rattle.alg_terms.specs.declared.symbols.Sym.{Sym}
use Rattle.alg_terms.specs.declared.symbols.Sym.TheVariants as sym
use Rattle.alg_terms.specs.declared.relations.Rel.{Rel}
use Rattle.alg_terms.specs.declared.relations.Rel.TheVariants as rel
use Rattle.alg_terms.specs.Tree.{Tree, Trees, Nil, Cons, Lit as literal, Var as variable, App as node, Statement}
use Rattle.alg_proof.specs.declared.lines.ComputeHead.{ComputeHead}
use Rattle.alg_proof.specs.declared.lines.ComputeHead.TheVariants as head
use Rattle.alg_proof.specs.Names.{IsName}
use Rattle.alg_proof.specs.Steps.{Step, Refl, Symm, Trans, Cong, Subst, Law, Lemma, Hyp, Rest, LitAdd, LitMul, LitRel, Bridge, Compute}
use Rattle.alg_certificate.specs.Numbers.{max_number}
use Rattle.alg_certificate.specs.Tokens.{Tok, Blank, Close, Semi, Open, Lit, Var, Word, token_bytes}
use Rattle.alg_certificate.specs.Words.{sort_bytes, symbol_bytes, relation_bytes, bridge_bytes, head_bytes, numeral_bytes}

abbrev mutual
  pub spell : Tree → List Tok
  spell (literal s n) = Lit (sort_bytes s) n ∷ []
  spell (variable k s) = Var k ∷ []
  spell (node f s ts) = Open (symbol_bytes f) ∷ (spell_all ts ++ Close ∷ [])

  -- each behind a blank
  pub spell_all : Trees → List Tok
  spell_all Nil = []
  spell_all (Cons t ts) = Blank ∷ (spell t ++ spell_all ts)

-- what stands behind a blank of a line
pub data Item : Type 0 where
  tree : Tree → Item
  word : List ℕ → Item
  semicolon : Item

abbrev pub spell_item : Item → List Tok
spell_item (tree t) = spell t
spell_item (word w) = Word w ∷ []
spell_item semicolon = Semi ∷ []

abbrev pub spell_items : List Item → List Tok
spell_items [] = []
spell_items (i ∷ is) = Blank ∷ (spell_item i ++ spell_items is)

abbrev pub trees_before : List Tree → List Item → List Item
trees_before [] is = is
trees_before (t ∷ ts) is = tree t ∷ trees_before ts is

abbrev pub numbers : List ℕ → List Item
numbers [] = []
numbers (n ∷ ns) = word (decimal n) ∷ numbers ns

abbrev pub numerals : List ℤ → List Item
numerals [] = []
numerals (x ∷ xs) = word (numeral_bytes x) ∷ numerals xs

-- the word that a line begins with
abbrev pub head_of : Step → List ℕ
head_of (Refl t) = codes "refl"
head_of (Symm i) = codes "symm"
head_of (Trans i j) = codes "trans"
head_of (Cong f is) = codes "cong"
head_of (Subst i j k) = codes "subst"
head_of (Law n s ts is) = codes "law"
head_of (Lemma n s ts is) = codes "lemma"
head_of (Hyp n) = codes "hyp"
head_of Rest = codes "rest"
head_of (LitAdd s m n) = codes "add"
head_of (LitMul s m n) = codes "mul"
head_of (LitRel r s m n) = codes "rel"
head_of (Bridge b n t) = codes "bridge"
head_of (Compute h s xs) = codes "compute"

-- the items after it
abbrev pub items_of : Step → List Item
items_of (Refl t) = tree t ∷ []
items_of (Symm i) = numbers (i ∷ [])
items_of (Trans i j) = numbers (i ∷ j ∷ [])
items_of (Cong f is) = word (symbol_bytes f) ∷ numbers is
items_of (Subst i j k) = numbers (i ∷ j ∷ k ∷ [])
items_of (Law n s ts is) = word n ∷ word (sort_bytes s) ∷ trees_before ts (semicolon ∷ numbers is)
items_of (Lemma n s ts is) = word n ∷ word (sort_bytes s) ∷ trees_before ts (semicolon ∷ numbers is)
items_of (Hyp n) = numbers (n ∷ [])
items_of Rest = []
items_of (LitAdd s m n) = word (sort_bytes s) ∷ numbers (m ∷ n ∷ [])
items_of (LitMul s m n) = word (sort_bytes s) ∷ numbers (m ∷ n ∷ [])
items_of (LitRel r s m n) = word (relation_bytes r) ∷ word (sort_bytes s) ∷ numbers (m ∷ n ∷ [])
items_of (Bridge b n t) = word (bridge_bytes b) ∷ word (decimal n) ∷ tree t ∷ []
items_of (Compute h s xs) = word (head_bytes h) ∷ word (sort_bytes s) ∷ numerals xs

abbrev pub line_of : List ℕ → List Item → List Tok
line_of w is = Word w ∷ spell_items is

abbrev pub spell_step : Step → List Tok
spell_step l = line_of (head_of l) (items_of l)

abbrev pub spell_given : Statement → List Tok
spell_given s = line_of (codes "given") (word (relation_bytes s.rel) ∷ word (sort_bytes s.sort) ∷ tree s.lhs ∷ tree s.rhs ∷ [])

abbrev pub bytes : List Tok → List ℕ
bytes [] = []
bytes (t ∷ ts) = token_bytes t ++ bytes ts

-- the text of a proof line, without its line feed
abbrev pub step_bytes : Step → List ℕ
step_bytes l = bytes (spell_step l)

abbrev pub given_bytes : Statement → List ℕ
given_bytes s = bytes (spell_given s)

abbrev pub goal_bytes : ℕ → List ℕ
goal_bytes n = bytes (line_of (codes "goal") (numbers (n ∷ [])))

-- what has a spelling: numbers are in range, names are such, and what has to have an item has one
abbrev pub IsInRange : ℕ → Type 0
IsInRange n = n ≤ max_number

abbrev pub SortFits : Sort → Type 0
SortFits (sort.Decl k) = IsInRange k
SortFits s = ⊤

abbrev pub SymbolFits : Sym → Type 0
SymbolFits (sym.Apply k) = IsInRange k
SymbolFits f = ⊤

abbrev pub HeadFits : ComputeHead → Type 0
HeadFits (head.Named f) = SymbolFits f
HeadFits head.Dvd = ⊤

abbrev pub IsSome : Trees → Type 0
IsSome Nil = ⊥
IsSome (Cons t ts) = ⊤

abbrev mutual
  pub TreeFits : Tree → Type 0
  TreeFits (literal s n) = SortFits s × IsInRange n
  TreeFits (variable k s) = IsInRange k
  TreeFits (node f s ts) = SymbolFits f × IsSome ts × TreesFit ts

  pub TreesFit : Trees → Type 0
  TreesFit Nil = ⊤
  TreesFit (Cons t ts) = TreeFits t × TreesFit ts

abbrev pub IsComparison : Rel → Type 0
IsComparison rel.Ne = ⊤
IsComparison rel.Lt = ⊤
IsComparison rel.Le = ⊤
IsComparison rel.Eq = ⊥
IsComparison rel.Dvd = ⊥

abbrev pub HasOne : {A : Type 0} → List A → Type 0
HasOne [] = ⊥
HasOne (x ∷ xs) = ⊤

abbrev pub HasSpelling : Step → Type 0
HasSpelling (Refl t) = TreeFits t
HasSpelling (Symm i) = IsInRange i
HasSpelling (Trans i j) = IsInRange i × IsInRange j
HasSpelling (Cong f is) = SymbolFits f × HasOne is × All IsInRange is
HasSpelling (Subst i j k) = IsInRange i × IsInRange j × IsInRange k
HasSpelling (Law n s ts is) = IsName n × SortFits s × All TreeFits ts × All IsInRange is
HasSpelling (Lemma n s ts is) = IsName n × SortFits s × All TreeFits ts × All IsInRange is
HasSpelling (Hyp n) = IsInRange n
HasSpelling Rest = ⊤
HasSpelling (LitAdd s m n) = SortFits s × IsInRange m × IsInRange n
HasSpelling (LitMul s m n) = SortFits s × IsInRange m × IsInRange n
HasSpelling (LitRel r s m n) = IsComparison r × SortFits s × IsInRange m × IsInRange n
HasSpelling (Bridge b n t) = IsInRange n × TreeFits t
HasSpelling (Compute h s xs) = HeadFits h × SortFits s × HasOne xs × All (λ x. IsInRange (unsigned_abs x)) xs

abbrev pub StatementHasSpelling : Statement → Type 0
StatementHasSpelling s = SortFits s.sort × TreeFits s.lhs × TreeFits s.rhs
