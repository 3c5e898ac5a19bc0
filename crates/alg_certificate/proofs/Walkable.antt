-- Items that the parts ask for are passed over by a reader of tokens.
use Rattle.std.proofs.Common.{◌≡◌, ℕ, suc, true, false, List, [], ◌∷◌, ◌++◌, Some, refl, sym, ap, subst, ◌∙◌, append_assoc}
use Rattle.std.proofs.lemmas.Bool.{and_from}
use Rattle.alg_terms.specs.declared.sorts.Sort.{Sort}
use Rattle.alg_terms.specs.Tree.{Tree, Trees, Nil, Cons, Lit as literal, Var as variable, App as node}
use Rattle.alg_certificate.specs.declared.patterns.Slot.{Slot}
use Rattle.alg_certificate.specs.declared.patterns.Slot.TheVariants as slot
use Rattle.alg_certificate.specs.declared.patterns.Part.{Part}
use Rattle.alg_certificate.specs.declared.patterns.Part.TheVariants.{One, Many}
use Rattle.alg_certificate.specs.declared.walks.Spot.TheVariants.{Between, Before, Opened, Beginning, Ended}
use Rattle.alg_certificate.specs.Tokens.{Tok, Blank, Close, Semi, Open, Lit, Var, Word, begins_word}
use Rattle.alg_certificate.specs.Lexed.{Lexed, tokens}
use Rattle.alg_certificate.specs.Words.{sort_bytes, symbol_bytes}
use Rattle.alg_certificate.specs.Spelling.{spell, spell_all, Item, tree, word, semicolon, spell_item, spell_items, IsSome, TreeFits, TreesFit, bytes}
use Rattle.alg_certificate.specs.Walks.{is_semicolon_slot, fits, first_fit, may_stop, walks, walks_all, allows}
use Rattle.alg_certificate.specs.Items.{FitsSlot, AllFit, Matches, AreItems}
use Rattle.alg_certificate.proofs.ApartLaws.{Separated}
use Rattle.alg_certificate.proofs.TokenLaws.{tokens_complete}
use Rattle.alg_certificate.proofs.Fitting.{sort_fits, symbol_fits}
use Rattle.alg_certificate.proofs.Wordlike.{sort_word, symbol_word, fitting_word}

-- a part for any number of items ends the line, or stands before a semicolon
abbrev IsEnd : Slot → List Part → Type 0
IsEnd s [] = Unit {0}
IsEnd s (One slot.Semicolon ∷ ps) = is_semicolon_slot s ≡ false
IsEnd s _ = ⊥

abbrev pub IsClear : List Part → Type 0
IsClear [] = Unit {0}
IsClear (One s ∷ ps) = IsClear ps
IsClear (Many s ∷ ps) = IsEnd s ps × IsClear ps

-- the token that an item begins with
abbrev first : Item → Tok
first (tree (literal s n)) = Lit (sort_bytes s) n
first (tree (variable k s)) = Var k
first (tree (node f s ts)) = Open (symbol_bytes f)
first (word w) = Word w
first semicolon = Semi

first_fits : (s : Slot) (i : Item) → FitsSlot s i → fits s (first i) ≡ true
first_fits s (tree (literal l n)) f = and_from _ _ f.0 (sort_fits l f.1.0)
first_fits s (tree (variable k l)) f = f.0
first_fits s (tree (node g l ts)) f = and_from _ _ f.0 (symbol_fits g f.1.0)
first_fits s (word w) f = f
first_fits s semicolon f = f

record Left (ps : List Part) (i : Item) (is : List Item) : Type 0 where
  parts : List Part
  found : first_fit ps (first i) ≡ Some parts
  matches : Matches parts is
  clear : IsClear parts

semicolon_only : (s : Slot) (i : Item) → is_semicolon_slot s ≡ false → FitsSlot slot.Semicolon i → fits s (first i) ≡ false
semicolon_only s (tree t) e f = cc
semicolon_only s (word w) e f = cc
semicolon_only s semicolon e f = e

one_left : (s : Slot) (ps : List Part) (i : Item) (is : List Item) → FitsSlot s i → Matches ps is → IsClear ps → Left (One s ∷ ps) i is
one_left s ps i is f m c = record { parts = ps; found = rw (first_fits s i f) refl; matches = m; clear = c }

first_item : (s : Slot) (ps : List Part) (i j : Item) (is js : List Item) → ◌≡◌ {A = List Item} (i ∷ is) (j ∷ js) → FitsSlot s j → Matches ps js → FitsSlot s i × Matches ps is
first_item s ps i j is js e f m =
    let one : i ≡ j = cc in
    let others : is ≡ js = cc in
    (subst (FitsSlot s) (sym one) f, subst (Matches ps) (sym others) m)

many_more : (s : Slot) (ps : List Part) (i x : Item) (is xs js : List Item) → ◌≡◌ {A = List Item} (i ∷ is) (x ∷ (xs ++ js)) → FitsSlot s x → AllFit s xs → Matches ps js → IsEnd s ps × IsClear ps → Left (Many s ∷ ps) i is
many_more s ps i x is xs js e f g m c =
    let one : i ≡ x = cc in
    let others : is ≡ xs ++ js = cc in
    record { parts = Many s ∷ ps; found = rw (first_fits s i (subst (FitsSlot s) (sym one) f)) refl; matches = (xs, js, others, g, m); clear = c }

many_none : (s : Slot) (ps : List Part) (i : Item) (is : List Item) → Matches ps (i ∷ is) → IsEnd s ps → IsClear ps → Left (Many s ∷ ps) i is
many_none s [] i is m d c = cc
many_none s (One slot.Semicolon ∷ ps) i is m d c =
    let p = first_item slot.Semicolon ps i m.0 is m.1 m.2 m.3 m.4 in
    record { parts = ps; found = rw (semicolon_only s i d p.0, first_fits slot.Semicolon i p.0) refl; matches = p.1; clear = c }
many_none s (One slot.Tree ∷ ps) i is m d c = absurd d
many_none s (One slot.Number ∷ ps) i is m d c = absurd d
many_none s (One slot.Sort ∷ ps) i is m d c = absurd d
many_none s (One slot.Symbol ∷ ps) i is m d c = absurd d
many_none s (One slot.Relation ∷ ps) i is m d c = absurd d
many_none s (One slot.Comparison ∷ ps) i is m d c = absurd d
many_none s (One slot.Name ∷ ps) i is m d c = absurd d
many_none s (One slot.Bridge ∷ ps) i is m d c = absurd d
many_none s (One slot.Head ∷ ps) i is m d c = absurd d
many_none s (One slot.Numeral ∷ ps) i is m d c = absurd d
many_none s (Many r ∷ ps) i is m d c = absurd d

left : (ps : List Part) (i : Item) (is : List Item) → Matches ps (i ∷ is) → IsClear ps → Left ps i is
left [] i is m c = cc
left (One s ∷ ps) i is m c = let p = first_item s ps i m.0 is m.1 m.2 m.3 m.4 in one_left s ps i is p.0 p.1 c
left (Many s ∷ ps) i is m c = many_by m.0 m.1 m.2 m.3 m.4
  where
    many_by : (xs js : List Item) → i ∷ is ≡ xs ++ js → AllFit s xs → Matches ps js → Left (Many s ∷ ps) i is
    many_by [] js e f n = many_none s ps i is (subst (Matches ps) (sym e) n) c.0 c.1
    many_by (x ∷ xs) js e f n = many_more s ps i x is xs js e f.0 f.1 n c

no_item : (i : Item) (is : List Item) → ◌≡◌ {A = List Item} [] (i ∷ is) → ⊥
no_item i is e = cc

nothing_left : (ps : List Part) → Matches ps [] → may_stop ps ≡ true
nothing_left [] m = refl
nothing_left (One s ∷ ps) m = absurd (no_item m.0 m.1 m.2)
nothing_left (Many s ∷ ps) m = many_by m.0 m.1 m.2 m.4 (λ n. nothing_left ps n)
  where
    many_by : (xs js : List Item) → [] ≡ xs ++ js → Matches ps js → (Matches ps [] → may_stop ps ≡ true) → may_stop ps ≡ true
    many_by [] js e n ih = ih (subst (Matches ps) (sym e) n)
    many_by (x ∷ xs) js e n ih = absurd (no_item x (xs ++ js) e)

-- a tree is passed over, and then arguments
mutual
  unfolding walks

  tree_walk : (t : Tree) (rest : List Tok) (d : ℕ) (ps : List Part) → TreeFits t → walks (spell t ++ rest) Beginning (suc d) ps ≡ walks rest Ended (suc d) ps
  tree_walk (literal s n) rest d ps f = rw (sort_fits s f.0) refl
  tree_walk (variable k s) rest d ps f = refl
  tree_walk (node g s ts) rest d ps f = rw (symbol_fits g f.0) (ap (λ x. walks x Opened (suc (suc d)) ps) (append_assoc (spell_all ts) (Close ∷ []) rest) ∙ node_walk ts (Close ∷ rest) (suc d) ps f.1 f.2)

  node_walk : (ts : Trees) (rest : List Tok) (d : ℕ) (ps : List Part) → IsSome ts → TreesFit ts → walks (spell_all ts ++ rest) Opened (suc d) ps ≡ walks rest Ended (suc d) ps
  node_walk Nil rest d ps s f = absurd s
  node_walk (Cons t ts) rest d ps s f = ap (λ x. walks x Beginning (suc d) ps) (append_assoc (spell t) (spell_all ts) rest) ∙ (tree_walk t (spell_all ts ++ rest) d ps f.0 ∙ arguments_walk ts rest d ps f.1)

  arguments_walk : (ts : Trees) (rest : List Tok) (d : ℕ) (ps : List Part) → TreesFit ts → walks (spell_all ts ++ rest) Ended (suc d) ps ≡ walks rest Ended (suc d) ps
  arguments_walk Nil rest d ps f = refl
  arguments_walk (Cons t ts) rest d ps f = ap (λ x. walks x Beginning (suc d) ps) (append_assoc (spell t) (spell_all ts) rest) ∙ (tree_walk t (spell_all ts ++ rest) d ps f.0 ∙ arguments_walk ts rest d ps f.1)

-- an item is passed over
item_walk : (ps qs : List Part) (i : Item) (rest : List Tok) → first_fit ps (first i) ≡ Some qs → ((t : Tree) → i ≡ tree t → TreeFits t) → walks (spell_item i ++ rest) Before 0 ps ≡ walks rest Between 0 qs
unfolding walks
item_walk ps qs (tree (literal s n)) rest e f = rw e refl
item_walk ps qs (tree (variable k s)) rest e f = rw e refl
item_walk ps qs (tree (node g s ts)) rest e f =
    let fit = f (node g s ts) refl in
    rw e (ap (λ x. walks x Opened 1 qs) (append_assoc (spell_all ts) (Close ∷ []) rest) ∙ node_walk ts (Close ∷ rest) 0 qs fit.1 fit.2)
item_walk ps qs (word w) rest e f = rw e refl
item_walk ps qs semicolon rest e f = rw e refl

abbrev AllItemsFit : List Item → Type 0
AllItemsFit [] = Unit {0}
AllItemsFit (i ∷ is) = ((t : Tree) → i ≡ tree t → TreeFits t) × AllItemsFit is

items_walk : (is : List Item) (ps : List Part) → Matches ps is → IsClear ps → AllItemsFit is → walks (spell_items is) Between 0 ps ≡ true
unfolding walks
items_walk [] ps m c f = nothing_left ps m
items_walk (i ∷ is) ps m c f =
    let l = left ps i is m c in
    item_walk ps l.parts i (spell_items is) l.found f.0 ∙ items_walk is l.parts l.matches l.clear f.1

-- the tokens of items are apart
quiet : (ts : Trees) (rest : List Tok) → begins_word (bytes rest) ≡ false → begins_word (bytes (spell_all ts ++ rest)) ≡ false
quiet Nil rest e = e
quiet (Cons t ts) rest e = refl

mutual
  tree_apart : (t : Tree) (rest : List Tok) → TreeFits t → begins_word (bytes rest) ≡ false → Separated rest → Separated (spell t ++ rest)
  tree_apart (literal s n) rest f e a = ((sort_word s f.0, f.1), e, a)
  tree_apart (variable k s) rest f e a = (f, e, a)
  tree_apart (node g s ts) rest f e a =
      let more = trees_apart ts (Close ∷ rest) f.2 refl (tt, tt, a) in
      subst (λ x. Separated (Open (symbol_bytes g) ∷ x)) (sym (append_assoc (spell_all ts) (Close ∷ []) rest)) (symbol_word g f.0, quiet ts (Close ∷ rest) refl, more)

  pub trees_apart : (ts : Trees) (rest : List Tok) → TreesFit ts → begins_word (bytes rest) ≡ false → Separated rest → Separated (spell_all ts ++ rest)
  trees_apart Nil rest f e a = a
  trees_apart (Cons t ts) rest f e a =
      let more = tree_apart t (spell_all ts ++ rest) f.0 (quiet ts rest e) (trees_apart ts rest f.1 e a) in
      subst (λ x. Separated (Blank ∷ x)) (sym (append_assoc (spell t) (spell_all ts) rest)) (tt, tt, more)

pub items_quiet : (is : List Item) → begins_word (bytes (spell_items is)) ≡ false
items_quiet [] = refl
items_quiet (i ∷ is) = refl

item_apart : (s : Slot) (i : Item) (rest : List Tok) → FitsSlot s i → begins_word (bytes rest) ≡ false → Separated rest → Separated (spell_item i ++ rest)
item_apart s (tree t) rest f e a = tree_apart t rest f.1 e a
item_apart s (word w) rest f e a = (fitting_word s w f, e, a)
item_apart s semicolon rest f e a = (tt, tt, a)

-- each item fits some slot
abbrev AllSlotted : List Item → Type 0
AllSlotted [] = Unit {0}
AllSlotted (i ∷ is) = ((s : Slot) × FitsSlot s i) × AllSlotted is

items_apart : (is : List Item) → AllSlotted is → Separated (spell_items is)
items_apart [] f = tt
items_apart (i ∷ is) f = (tt, tt, item_apart f.0.0 i (spell_items is) f.0.1 (items_quiet is) (items_apart is f.1))

slotted_append : (s : Slot) (xs js : List Item) → AllFit s xs → AllSlotted js → AllSlotted (xs ++ js)
slotted_append s [] js f g = g
slotted_append s (x ∷ xs) js f g = ((s, f.0), slotted_append s xs js f.1 g)

slotted : (ps : List Part) (is : List Item) → Matches ps is → AllSlotted is
slotted [] is m = subst AllSlotted (sym m) tt
slotted (One s ∷ ps) is m = subst AllSlotted (sym m.2) ((s, m.3), slotted ps m.1 m.4)
slotted (Many s ∷ ps) is m = subst AllSlotted (sym m.2) (slotted_append s m.0 m.1 m.3 (slotted ps m.1 m.4))

-- the tokens of items that the parts ask for are apart
pub items_separated : (ps : List Part) (is : List Item) → Matches ps is → Separated (spell_items is)
items_separated ps is m = items_apart is (slotted ps is m)

of_slot : (s : Slot) (i : Item) → FitsSlot s i → (t : Tree) → i ≡ tree t → TreeFits t
of_slot s i f t e = let g : FitsSlot s (tree t) = subst (FitsSlot s) e f in g.1

fit_all : (is : List Item) → AllSlotted is → AllItemsFit is
fit_all [] f = tt
fit_all (i ∷ is) f = (of_slot f.0.0 i f.0.1, fit_all is f.1)

over : (x : Lexed) (ts : List Tok) (ps : List Part) → x ≡ (ts, []) → walks ts Between 0 ps ≡ true → walks_all x Between 0 ps ≡ true
over x ts ps e w = ap (λ y. walks_all y Between 0 ps) e ∙ w

-- COMPLETE: the text of items that the parts ask for is allowed
pub allows_complete : (ps : List Part) (text : List ℕ) → IsClear ps → AreItems ps text → allows ps text ≡ true
allows_complete ps text c a =
    let f = slotted ps a.items a.matches in
    ap (allows ps) a.same ∙ over (tokens (bytes (spell_items a.items))) (spell_items a.items) ps (tokens_complete (spell_items a.items) (items_apart a.items f)) (items_walk a.items ps a.matches c (fit_all a.items f))
