-- What a reader of tokens passes over is items that the parts ask for.
use Rattle.std.proofs.Common.{◌≡◌, ℕ, zero, suc, Bool, true, false, List, [], ◌∷◌, ◌++◌, length, Option, Some, None, refl, sym, ap, subst, ◌∙◌, arith, append_assoc, append-nil, if◌then◌else◌}
use Rattle.std.proofs.lemmas.Bool.{and_parts}
use Rattle.std.proofs.lemmas.Option.{none-some}
use Rattle.alg_terms.specs.declared.sorts.Sort.TheVariants.{Nat}
use Rattle.alg_terms.specs.Tree.{Tree, Trees, Nil, Cons, Lit as literal, Var as variable, App as node}
use Rattle.alg_certificate.specs.declared.patterns.Slot.{Slot}
use Rattle.alg_certificate.specs.declared.patterns.Part.{Part}
use Rattle.alg_certificate.specs.declared.patterns.Part.TheVariants.{One, Many}
use Rattle.alg_certificate.specs.declared.walks.Spot.{Spot}
use Rattle.alg_certificate.specs.declared.walks.Spot.TheVariants.{Between, Before, Opened, Beginning, Ended}
use Rattle.alg_certificate.specs.Tokens.{Tok, Blank, Close, Semi, Open, Lit, Var, Word}
use Rattle.alg_certificate.specs.Cutting.{is_empty}
use Rattle.alg_certificate.specs.Lexed.{tokens}
use Rattle.alg_certificate.specs.Words.{is_sort, is_symbol}
use Rattle.alg_certificate.specs.Spelling.{spell, spell_all, Item, tree, word, semicolon, spell_item, spell_items, IsSome, TreeFits, TreesFit, bytes}
use Rattle.alg_certificate.specs.Walks.{Standing, is_tree_slot, fits, first_fit, may_stop, opens, begun, go, walks, allows}
use Rattle.alg_certificate.specs.Items.{FitsSlot, Matches, AreItems}
use Rattle.alg_certificate.proofs.TokenLaws.{AllGood, tokens_sound}
use Rattle.alg_certificate.proofs.NumberLaws.{some_is}
use Rattle.alg_certificate.proofs.WordLaws.{sort_is, symbol_is}

-- the ends of the nodes that are open, each with the arguments that are left
abbrev closing : List Trees → List Tok
closing [] = []
closing (us ∷ uss) = spell_all us ++ Close ∷ closing uss

abbrev AllTrees : List Trees → Type 0
AllTrees [] = Unit {0}
AllTrees (us ∷ uss) = TreesFit us × AllTrees uss

record Opens (ps : List Part) (d : ℕ) (ts : List Tok) : Type 0 where
  args : Trees
  more : List Trees
  size : length more ≡ d
  args_fit : TreesFit args
  more_fit : AllTrees more
  items : List Item
  matches : Matches ps items
  same : ts ≡ closing (args ∷ more) ++ spell_items items

record Starts (ps : List Part) (d : ℕ) (ts : List Tok) : Type 0 where
  opened : Opens ps d ts
  some : IsSome opened.args

record Begins (ps : List Part) (d : ℕ) (ts : List Tok) : Type 0 where
  tree : Tree
  tree_fits : TreeFits tree
  rest : List Tok
  opened : Opens ps d rest
  same : ts ≡ spell tree ++ rest

record Items (ps : List Part) (ts : List Tok) : Type 0 where
  items : List Item
  matches : Matches ps items
  same : ts ≡ spell_items items

record Comes (ps : List Part) (ts : List Tok) : Type 0 where
  item : Item
  items : List Item
  matches : Matches ps (item ∷ items)
  same : ts ≡ spell_item item ++ spell_items items

chosen : (b : Bool) (x : Standing) (k : Spot → ℕ → List Part → Bool) → go (if◌then◌else◌ {A = Option Standing} b (Some x) None) k ≡ true → (b ≡ true) × (k x.0 x.1 x.2 ≡ true)
chosen true x k e = (refl, e)
chosen false x k e = cc

-- an item that fits where the token fits
fit_match : (ps : List Part) (t : Tok) (qs : List Part) (i : Item) (js : List Item) → ((s : Slot) → fits s t ≡ true → FitsSlot s i) → first_fit ps t ≡ Some qs → Matches qs js → Matches ps (i ∷ js)
fit_match [] t qs i js f e m = absurd (none-some _ e)
fit_match (One s ∷ ps) t qs i js f e m = one_by _ refl e
  where
    one_by : (b : Bool) → fits s t ≡ b → if◌then◌else◌ {A = Option (List Part)} b (Some ps) None ≡ Some qs → Matches (One s ∷ ps) (i ∷ js)
    one_by false d h = absurd (none-some _ h)
    one_by true d h = (i, js, refl, f s d, subst (λ x. Matches x js) (sym (some_is _ _ h)) m)
fit_match (Many s ∷ ps) t qs i js f e m = many_by _ refl e (λ h. fit_match ps t qs i js f h m)
  where
    more_of : (x : List Part) → Many s ∷ ps ≡ x → fits s t ≡ true → Matches x js → Matches (Many s ∷ ps) (i ∷ js)
    more_of x h d n = let k : Matches (Many s ∷ ps) js = subst (λ y. Matches y js) (sym h) n in (i ∷ k.0, k.1, ap (λ y. i ∷ y) k.2, (f s d, k.3), k.4)

    many_by : (b : Bool) → fits s t ≡ b → if◌then◌else◌ {A = Option (List Part)} b (Some (Many s ∷ ps)) (first_fit ps t) ≡ Some qs → (first_fit ps t ≡ Some qs → Matches ps (i ∷ js)) → Matches (Many s ∷ ps) (i ∷ js)
    many_by false d h ih = ([], i ∷ js, refl, tt, ih h)
    many_by true d h ih = more_of qs (some_is _ _ h) d m

-- some part has the token
some_slot : (ps : List Part) (t : Tok) (qs : List Part) → first_fit ps t ≡ Some qs → (s : Slot) × (fits s t ≡ true)
some_slot [] t qs e = absurd (none-some _ e)
some_slot (One s ∷ ps) t qs e = one_by _ refl e
  where
    one_by : (b : Bool) → fits s t ≡ b → if◌then◌else◌ {A = Option (List Part)} b (Some ps) None ≡ Some qs → (r : Slot) × (fits r t ≡ true)
    one_by false d h = absurd (none-some _ h)
    one_by true d h = (s, d)
some_slot (Many s ∷ ps) t qs e = many_by _ refl e (some_slot ps t qs)
  where
    many_by : (b : Bool) → fits s t ≡ b → if◌then◌else◌ {A = Option (List Part)} b (Some (Many s ∷ ps)) (first_fit ps t) ≡ Some qs → (first_fit ps t ≡ Some qs → (r : Slot) × (fits r t ≡ true)) → (r : Slot) × (fits r t ≡ true)
    many_by false d h ih = ih h
    many_by true d h ih = (s, d)

nothing_matches : (ps : List Part) → may_stop ps ≡ true → Matches ps []
nothing_matches [] e = refl
nothing_matches (One s ∷ ps) e = cc
nothing_matches (Many s ∷ ps) e = ([], [], refl, tt, nothing_matches ps e)

fitted : (t : Tok) (o : Option (List Part)) (k : Spot → ℕ → List Part → Bool) → opens t ≡ false → go (begun t o) k ≡ true → (qs : List Part) × (o ≡ Some qs) × (k Between 0 qs ≡ true)
fitted t None k p e = cc
fitted t (Some qs) k p e = (qs, refl, subst (λ b. go (if◌then◌else◌ {A = Option Standing} b (Some (Opened, 1, qs)) (Some (Between, 0, qs))) k ≡ true) p e)

fitted_node : (w : List ℕ) (o : Option (List Part)) (k : Spot → ℕ → List Part → Bool) → go (begun (Open w) o) k ≡ true → (qs : List Part) × (o ≡ Some qs) × (k Opened 1 qs ≡ true)
fitted_node w None k e = cc
fitted_node w (Some qs) k e = (qs, refl, e)

abbrev add_argument : (ps : List Part) (d : ℕ) (ts : List Tok) → Begins ps d ts → Opens ps d (Blank ∷ ts)
add_argument ps d ts b =
    let r = b.opened in
    record {
      args = Cons b.tree r.args;
      more = r.more;
      size = r.size;
      args_fit = (b.tree_fits, r.args_fit);
      more_fit = r.more_fit;
      items = r.items;
      matches = r.matches;
      same = ap (λ x. Blank ∷ x) (b.same ∙ (ap (λ x. spell b.tree ++ x) r.same
          ∙ (sym (append_assoc (spell b.tree) (closing (r.args ∷ r.more)) (spell_items r.items))
          ∙ ap (λ x. x ++ spell_items r.items) (sym (append_assoc (spell b.tree) (spell_all r.args) (Close ∷ closing r.more))))));
    }

close_last : (ps : List Part) (ts : List Tok) → Items ps ts → Opens ps 0 (Close ∷ ts)
close_last ps ts r = record { args = Nil; more = []; size = refl; args_fit = tt; more_fit = tt; items = r.items; matches = r.matches; same = ap (λ x. Close ∷ x) r.same }

close_one : (ps : List Part) (d : ℕ) (ts : List Tok) → Opens ps d ts → Opens ps (suc d) (Close ∷ ts)
close_one ps d ts r = record { args = Nil; more = r.args ∷ r.more; size = ap suc r.size; args_fit = tt; more_fit = (r.args_fit, r.more_fit); items = r.items; matches = r.matches; same = ap (λ x. Close ∷ x) r.same }

-- a node's text, and what follows it
node_text : (w : List ℕ) (us : Trees) (rest : List Tok) → Open w ∷ (spell_all us ++ Close ∷ rest) ≡ (Open w ∷ (spell_all us ++ Close ∷ [])) ++ rest
node_text w us rest = ap (λ x. Open w ∷ x) (sym (append_assoc (spell_all us) (Close ∷ []) rest))

node_at : (ps : List Part) (d : ℕ) (w : List ℕ) (ts : List Tok) → is_symbol w ≡ true → Starts ps (suc d) ts → Begins ps d (Open w ∷ ts)
node_at ps d w ts e s = node_by s.opened.more s.opened.size s.opened.more_fit s.opened.same
  where
    node_by : (more : List Trees) → length more ≡ suc d → AllTrees more → ts ≡ closing (s.opened.args ∷ more) ++ spell_items s.opened.items → Begins ps d (Open w ∷ ts)
    node_by [] size fit same = absurd (omega (arith, size))
    node_by (us ∷ more) size fit same =
        let f = symbol_is w e in
        let rest : List Tok = closing (us ∷ more) ++ spell_items s.opened.items in
        record {
          tree = node f.0 Nat s.opened.args;
          tree_fits = (f.1, s.some, s.opened.args_fit);
          rest = rest;
          opened = record { args = us; more = more; size = omega (arith, size); args_fit = fit.0; more_fit = fit.1; items = s.opened.items; matches = s.opened.matches; same = refl };
          same = ap (λ x. Open w ∷ x) (same ∙ append_assoc (spell_all s.opened.args) (Close ∷ closing (us ∷ more)) (spell_items s.opened.items))
              ∙ (node_text w s.opened.args rest ∙ ap (λ x. (Open x ∷ (spell_all s.opened.args ++ Close ∷ [])) ++ rest) (sym f.2));
        }

first_node : (ps qs : List Part) (w : List ℕ) (ts : List Tok) → first_fit ps (Open w) ≡ Some qs → Starts qs 0 ts → Comes ps (Open w ∷ ts)
first_node ps qs w ts e s = node_by s.opened.more s.opened.size s.opened.same
  where
    node_by : (more : List Trees) → length more ≡ 0 → ts ≡ closing (s.opened.args ∷ more) ++ spell_items s.opened.items → Comes ps (Open w ∷ ts)
    node_by (us ∷ more) size same = absurd (omega (arith, size))
    node_by [] size same =
        let r = some_slot ps (Open w) qs e in
        let f = symbol_is w (and_parts (is_tree_slot r.0) (is_symbol w) r.1).1 in
        record {
          item = tree (node f.0 Nat s.opened.args);
          items = s.opened.items;
          matches = fit_match ps (Open w) qs (tree (node f.0 Nat s.opened.args)) s.opened.items (λ v h. ((and_parts (is_tree_slot v) (is_symbol w) h).0, (f.1, s.some, s.opened.args_fit))) e s.opened.matches;
          same = ap (λ x. Open w ∷ x) same ∙ ap (λ x. (Open x ∷ (spell_all s.opened.args ++ Close ∷ [])) ++ spell_items s.opened.items) (sym f.2);
        }

mutual
  unfolding walks

  ended : (ts : List Tok) (d : ℕ) (ps : List Part) → AllGood ts → walks ts Ended (suc d) ps ≡ true → Opens ps d ts
  ended [] d ps g e = cc
  ended (Blank ∷ ts) d ps g e = add_argument ps d ts (beginning ts d ps g.1 e)
  ended (Close ∷ ts) zero ps g e = close_last ps ts (between ts ps g.1 e)
  ended (Close ∷ ts) (suc d) ps g e = close_one ps d ts (ended ts d ps g.1 e)
  ended (Semi ∷ ts) d ps g e = cc
  ended (Open w ∷ ts) d ps g e = cc
  ended (Lit w n ∷ ts) d ps g e = cc
  ended (Var k ∷ ts) d ps g e = cc
  ended (Word w ∷ ts) d ps g e = cc

  beginning : (ts : List Tok) (d : ℕ) (ps : List Part) → AllGood ts → walks ts Beginning (suc d) ps ≡ true → Begins ps d ts
  beginning [] d ps g e = cc
  beginning (Blank ∷ ts) d ps g e = cc
  beginning (Close ∷ ts) d ps g e = cc
  beginning (Semi ∷ ts) d ps g e = cc
  beginning (Word w ∷ ts) d ps g e = cc
  beginning (Var k ∷ ts) d ps g e = record { tree = variable k Nat; tree_fits = g.0; rest = ts; opened = ended ts d ps g.1 e; same = refl }
  beginning (Lit w n ∷ ts) d ps g e =
      let p = chosen (is_sort w) (Ended, suc d, ps) (walks ts) e in
      let s = sort_is w p.0 in
      record { tree = literal s.0 n; tree_fits = (s.1, g.0.1); rest = ts; opened = ended ts d ps g.1 p.1; same = ap (λ x. Lit x n ∷ ts) (sym s.2) }
  beginning (Open w ∷ ts) d ps g e = let p = chosen (is_symbol w) (Opened, suc (suc d), ps) (walks ts) e in node_at ps d w ts p.0 (started ts (suc d) ps g.1 p.1)

  started : (ts : List Tok) (d : ℕ) (ps : List Part) → AllGood ts → walks ts Opened (suc d) ps ≡ true → Starts ps d ts
  started [] d ps g e = cc
  started (Blank ∷ ts) d ps g e = record { opened = add_argument ps d ts (beginning ts d ps g.1 e); some = tt }
  started (Close ∷ ts) d ps g e = cc
  started (Semi ∷ ts) d ps g e = cc
  started (Open w ∷ ts) d ps g e = cc
  started (Lit w n ∷ ts) d ps g e = cc
  started (Var k ∷ ts) d ps g e = cc
  started (Word w ∷ ts) d ps g e = cc

  between : (ts : List Tok) (ps : List Part) → AllGood ts → walks ts Between 0 ps ≡ true → Items ps ts
  between [] ps g e = record { items = []; matches = nothing_matches ps e; same = refl }
  between (Blank ∷ ts) ps g e = let r = before ts ps g.1 e in record { items = r.item ∷ r.items; matches = r.matches; same = ap (λ x. Blank ∷ x) r.same }
  between (Close ∷ ts) ps g e = cc
  between (Semi ∷ ts) ps g e = cc
  between (Open w ∷ ts) ps g e = cc
  between (Lit w n ∷ ts) ps g e = cc
  between (Var k ∷ ts) ps g e = cc
  between (Word w ∷ ts) ps g e = cc

  before : (ts : List Tok) (ps : List Part) → AllGood ts → walks ts Before 0 ps ≡ true → Comes ps ts
  before [] ps g e = cc
  before (Blank ∷ ts) ps g e =
      let p = fitted Blank (first_fit ps Blank) (walks ts) refl e in
      let r = some_slot ps Blank p.0 p.1 in
      cc
  before (Close ∷ ts) ps g e =
      let p = fitted Close (first_fit ps Close) (walks ts) refl e in
      let r = some_slot ps Close p.0 p.1 in
      cc
  before (Semi ∷ ts) ps g e =
      let p = fitted Semi (first_fit ps Semi) (walks ts) refl e in
      let r = between ts p.0 g.1 p.2 in
      record { item = semicolon; items = r.items; matches = fit_match ps Semi p.0 semicolon r.items (λ s h. h) p.1 r.matches; same = ap (λ x. Semi ∷ x) r.same }
  before (Word w ∷ ts) ps g e =
      let p = fitted (Word w) (first_fit ps (Word w)) (walks ts) refl e in
      let r = between ts p.0 g.1 p.2 in
      record { item = word w; items = r.items; matches = fit_match ps (Word w) p.0 (word w) r.items (λ s h. h) p.1 r.matches; same = ap (λ x. Word w ∷ x) r.same }
  before (Var k ∷ ts) ps g e =
      let p = fitted (Var k) (first_fit ps (Var k)) (walks ts) refl e in
      let r = between ts p.0 g.1 p.2 in
      record { item = tree (variable k Nat); items = r.items; matches = fit_match ps (Var k) p.0 (tree (variable k Nat)) r.items (λ s h. (h, g.0)) p.1 r.matches; same = ap (λ x. Var k ∷ x) r.same }
  before (Lit w n ∷ ts) ps g e =
      let p = fitted (Lit w n) (first_fit ps (Lit w n)) (walks ts) refl e in
      let r = between ts p.0 g.1 p.2 in
      let v = some_slot ps (Lit w n) p.0 p.1 in
      let s = sort_is w (and_parts (is_tree_slot v.0) (is_sort w) v.1).1 in
      record {
        item = tree (literal s.0 n);
        items = r.items;
        matches = fit_match ps (Lit w n) p.0 (tree (literal s.0 n)) r.items (λ q h. ((and_parts (is_tree_slot q) (is_sort w) h).0, (s.1, g.0.1))) p.1 r.matches;
        same = ap (λ x. Lit w n ∷ x) r.same ∙ ap (λ x. Lit x n ∷ spell_items r.items) (sym s.2);
      }
  before (Open w ∷ ts) ps g e =
      let p = fitted_node w (first_fit ps (Open w)) (walks ts) e in
      first_node ps p.0 w ts p.1 (started ts 0 p.0 g.1 p.2)

no_left : (x : List ℕ) → is_empty x ≡ true → x ≡ []
no_left [] e = refl
no_left (c ∷ cs) e = cc

-- what is allowed is spelled by items that the parts ask for
pub allows_sound : (ps : List Part) (text : List ℕ) → allows ps text ≡ true → AreItems ps text
allows_sound ps text e =
    let p = and_parts (is_empty (tokens text).1) (walks (tokens text).0 Between 0 ps) e in
    let t = tokens_sound (length text) text in
    let r = between (tokens text).0 ps t.good p.1 in
    record {
      items = r.items;
      matches = r.matches;
      same = t.whole ∙ (ap (λ x. bytes (tokens text).0 ++ x) (no_left (tokens text).1 p.0) ∙ (append-nil (bytes (tokens text).0) ∙ ap bytes r.same));
    }
