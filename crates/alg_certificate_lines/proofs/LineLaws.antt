-- The line of each kind.
use Rattle.std.proofs.Common.{◌≡◌, ℕ, ◌≤◌, ℤ, unsigned_abs, true, List, [], ◌∷◌, All, Some, None, decimal, refl, sym, ap, subst, ◌∙◌}
use Rattle.std.proofs.lemmas.Option.{none-some}
use Rattle.alg_terms.specs.declared.sorts.Sort.{Sort}
use Rattle.alg_terms.specs.declared.symbols.Sym.{Sym}
use Rattle.alg_terms.specs.declared.relations.Rel.{Rel}
use Rattle.alg_terms.specs.Tree.{Tree}
use Rattle.alg_proof.specs.Names.{IsName}
use Rattle.alg_proof.specs.declared.lines.BridgeKind.{BridgeKind}
use Rattle.alg_proof.specs.declared.lines.ComputeHead.{ComputeHead}
use Rattle.alg_proof.specs.Steps.{Step, Refl, Symm, Trans, Cong, Subst, Law, Lemma, Hyp, Rest, LitAdd, LitMul, LitRel, Bridge, Compute}
use Rattle.alg_certificate.specs.Numbers.{max_number}
use Rattle.alg_certificate.proofs.NumberLaws.{some_is}
use Rattle.alg_certificate.specs.Words.{sort_bytes, symbol_bytes, relation_bytes, bridge_bytes, head_bytes}
use Rattle.alg_certificate.specs.Tokens.{is_some_word}
use Rattle.alg_certificate.proofs.Walkable.{items_quiet}
use Rattle.alg_certificate.specs.Spelling.{tree, word, semicolon, bytes, spell_items, trees_before, numbers, numerals, IsInRange, SortFits, SymbolFits, HeadFits, TreeFits, HasSpelling, head_of, items_of, step_bytes}
use Rattle.alg_certificate_lines.specs.declared.kinds.Kind.{Kind}
use Rattle.alg_certificate_lines.specs.declared.kinds.Kind.TheVariants as kind
use Rattle.alg_certificate_lines.specs.Kinds.{kind_of, kind_named, with_kind, behind_first, head_cut, Spells}
use Rattle.alg_certificate_lines.proofs.GivenLaws.{cut_first}

-- what holds of each step of the kind that the text spells
abbrev pub For : Kind → List ℕ → (Step → Type 0) → Type 0
For kind.Refl text P = (t : Tree) → TreeFits t → bytes (spell_items (tree t ∷ [])) ≡ text → P (Refl t)
For kind.Symm text P = (i : ℕ) → i ≤ max_number → bytes (spell_items (numbers (i ∷ []))) ≡ text → P (Symm i)
For kind.Trans text P = (i j : ℕ) → i ≤ max_number → j ≤ max_number → bytes (spell_items (numbers (i ∷ j ∷ []))) ≡ text → P (Trans i j)
For kind.Cong text P = (f : Sym) (is : List ℕ) → SymbolFits f → All IsInRange is → bytes (spell_items (word (symbol_bytes f) ∷ numbers is)) ≡ text → P (Cong f is)
For kind.Subst text P = (i j k : ℕ) → i ≤ max_number → j ≤ max_number → k ≤ max_number → bytes (spell_items (numbers (i ∷ j ∷ k ∷ []))) ≡ text → P (Subst i j k)
For kind.Law text P = (n : List ℕ) (s : Sort) (ts : List Tree) (is : List ℕ) → IsName n → SortFits s → All TreeFits ts → All IsInRange is → bytes (spell_items (word n ∷ word (sort_bytes s) ∷ trees_before ts (semicolon ∷ numbers is))) ≡ text → P (Law n s ts is)
For kind.Lemma text P = (n : List ℕ) (s : Sort) (ts : List Tree) (is : List ℕ) → IsName n → SortFits s → All TreeFits ts → All IsInRange is → bytes (spell_items (word n ∷ word (sort_bytes s) ∷ trees_before ts (semicolon ∷ numbers is))) ≡ text → P (Lemma n s ts is)
For kind.Hyp text P = (n : ℕ) → n ≤ max_number → bytes (spell_items (numbers (n ∷ []))) ≡ text → P (Hyp n)
For kind.Rest text P = P Rest
For kind.LitAdd text P = (s : Sort) (m n : ℕ) → SortFits s → m ≤ max_number → n ≤ max_number → bytes (spell_items (word (sort_bytes s) ∷ numbers (m ∷ n ∷ []))) ≡ text → P (LitAdd s m n)
For kind.LitMul text P = (s : Sort) (m n : ℕ) → SortFits s → m ≤ max_number → n ≤ max_number → bytes (spell_items (word (sort_bytes s) ∷ numbers (m ∷ n ∷ []))) ≡ text → P (LitMul s m n)
For kind.LitRel text P = (r : Rel) (s : Sort) (m n : ℕ) → SortFits s → m ≤ max_number → n ≤ max_number → bytes (spell_items (word (relation_bytes r) ∷ word (sort_bytes s) ∷ numbers (m ∷ n ∷ []))) ≡ text → P (LitRel r s m n)
For kind.Bridge text P = (k : BridgeKind) (n : ℕ) (t : Tree) → n ≤ max_number → TreeFits t → bytes (spell_items (word (bridge_bytes k) ∷ word (decimal n) ∷ tree t ∷ [])) ≡ text → P (Bridge k n t)
For kind.Compute text P = (h : ComputeHead) (s : Sort) (xs : List ℤ) → HeadFits h → SortFits s → All (λ x. IsInRange (unsigned_abs x)) xs → bytes (spell_items (word (head_bytes h) ∷ word (sort_bytes s) ∷ numerals xs)) ≡ text → P (Compute h s xs)

for_own : (l : Step) (text : List ℕ) (P : Step → Type 0) → For (kind_of l) text P → HasSpelling l → bytes (spell_items (items_of l)) ≡ text → P l
for_own (Refl t) text P h f e = h t f e
for_own (Symm i) text P h f e = h i f e
for_own (Trans i j) text P h f e = h i j f.0 f.1 e
for_own (Cong g is) text P h f e = h g is f.0 f.2 e
for_own (Subst i j k) text P h f e = h i j k f.0 f.1 f.2 e
for_own (Law n s ts is) text P h f e = h n s ts is f.0 f.1 f.2 f.3 e
for_own (Lemma n s ts is) text P h f e = h n s ts is f.0 f.1 f.2 f.3 e
for_own (Hyp n) text P h f e = h n f e
for_own Rest text P h f e = h
for_own (LitAdd s m n) text P h f e = h s m n f.0 f.1 f.2 e
for_own (LitMul s m n) text P h f e = h s m n f.0 f.1 f.2 e
for_own (LitRel r s m n) text P h f e = h r s m n f.1 f.2 f.3 e
for_own (Bridge k n t) text P h f e = h k n t f.0 f.1 e
for_own (Compute g s xs) text P h f e = h g s xs f.0 f.1 f.3 e

for_each : (k : Kind) (text : List ℕ) (P : Step → Type 0) → For k text P → (l : Step) → Spells k text l → P l
for_each k text P h l s = for_own l text P (subst (λ q. For q text P) (sym s.same) h) s.fits s.items

pub for_kind : (k j : Kind) (text : List ℕ) (P : Step → Type 0) → j ≡ k → For k text P → (l : Step) → Spells j text l → P l
for_kind k j text P e h = for_each j text P (subst (λ q. For q text P) (sym e) h)

-- the head of a line
head_word : (l : Step) → is_some_word (head_of l) ≡ true
head_word (Refl t) = refl
head_word (Symm i) = refl
head_word (Trans i j) = refl
head_word (Cong g is) = refl
head_word (Subst i j k) = refl
head_word (Law n s ts is) = refl
head_word (Lemma n s ts is) = refl
head_word (Hyp n) = refl
head_word Rest = refl
head_word (LitAdd s m n) = refl
head_word (LitMul s m n) = refl
head_word (LitRel r s m n) = refl
head_word (Bridge k n t) = refl
head_word (Compute g s xs) = refl

head_kind : (l : Step) → kind_named (head_of l) ≡ Some (kind_of l)
head_kind (Refl t) = refl
head_kind (Symm i) = refl
head_kind (Trans i j) = refl
head_kind (Cong g is) = refl
head_kind (Subst i j k) = refl
head_kind (Law n s ts is) = refl
head_kind (Lemma n s ts is) = refl
head_kind (Hyp n) = refl
head_kind Rest = refl
head_kind (LitAdd s m n) = refl
head_kind (LitMul s m n) = refl
head_kind (LitRel r s m n) = refl
head_kind (Bridge k n t) = refl
head_kind (Compute g s xs) = refl

head_is : (l : Step) → head_cut (step_bytes l) ≡ Some (kind_of l, bytes (spell_items (items_of l)))
head_is l =
    ap behind_first (cut_first (head_of l) (bytes (spell_items (items_of l))) (head_word l) (items_quiet (items_of l)))
    ∙ ap (λ o. with_kind o (bytes (spell_items (items_of l)))) (head_kind l)

pub line_spelled : (l : Step) (text : List ℕ) (k : Kind) (rest : List ℕ) → HasSpelling l → step_bytes l ≡ text → Some (k, rest) ≡ head_cut text → Spells k rest l
line_spelled l text k rest f e c =
    let same : ◌≡◌ {A = Kind × List ℕ} (k, rest) (kind_of l, bytes (spell_items (items_of l))) = some_is _ _ (c ∙ (ap head_cut (sym e) ∙ head_is l)) in
    record { fits = f; same = sym (ap (λ (x : Kind × List ℕ). x.0) same); items = sym (ap (λ (x : Kind × List ℕ). x.1) same) }

pub no_head : (l : Step) (text : List ℕ) → step_bytes l ≡ text → None ≡ head_cut text → ⊥
no_head l text e c = none-some _ (c ∙ (ap head_cut (sym e) ∙ head_is l))
