-- Parts with their values and lines, as extensions take them.
use Rattle.std.proofs.Common.{◌≡◌, ℕ, zero, suc, ◌+◌, ◌<◌, List, [], ◌∷◌, ◌++◌, length, get_or, take, map, add-one, refl, ap, sym, ◌∙◌, subst, Bool, true, Some, All, arith}
use Rattle.std.specs.Prelude.{if◌then◌else◌}
use Rattle.std.proofs.lemmas.List.Elements.{All-nil, All-cons}
use Rattle.alg_terms.specs.declared.symbols.Sym.{Sym}
use Rattle.alg_terms.specs.Tree.{Tree, App, of_list, sort_of_tree}
use Rattle.alg_num.specs.Fraction.{Fraction}
use Rattle.alg_expr.specs.declared.ids.ExprId.{ExprId}
use Rattle.alg_expr.specs.Ids.{tree_of, IsIn}
use Rattle.alg_expr.proofs.ArenaLaws.{IsIn-extends, tree_of-extends}
use Rattle.alg_law.specs.Having.{has_class}
use Rattle.alg_build.specs.Book.{Book, Grows, Proves}
use Rattle.alg_build.specs.Rewriting.{AllProve}
use Rattle.alg_build.proofs.Rewritings.{grows-stands}
use Rattle.alg_values.specs.Setting.{setting}
use Rattle.alg_values.specs.Functions.{is_named, named_of}
use Rattle.alg_values.specs.Normal.{normal}
use Rattle.alg_values.specs.Values.{value}
use Rattle.alg_values.specs.declared.value.Value.{Value}
use Rattle.alg_values.specs.Numerals.{numeral_tree}
use Rattle.alg_values.specs.declared.value.Value.TheVariants.{Num, Without}
use Rattle.alg_exts.specs.declared.num_ext.Valued.{Valued}
use Rattle.alg_exts.specs.Valuing.{IsOver, IsValued, fractions_of, trees_of, value_over}
use Rattle.alg_evaluation.specs.declared.found.Found.{Found}
use Rattle.alg_evaluation.specs.declared.found.Kind.{Kind}
use Rattle.alg_evaluation.specs.declared.found.Kind.TheVariants as kind
use Rattle.alg_evaluation.specs.declared.head.Head.{Head}
use Rattle.alg_evaluation.specs.Found.{IsFound, AllFound, numbers_of, worth, worth_of}
use Rattle.alg_evaluation.specs.Applied.{IsApplied, IsNumbered}
use Rattle.alg_evaluation.specs.Parts.{valued_with}
use Rattle.alg_evaluation.proofs.Parting.{with_some}
use Rattle.alg_evaluation.proofs.Finding.{named_value, normal-valued, whole_of}
use Rattle.alg_evaluation.proofs.Walking.{found-grows}

worth_num : (kd : Kind) (q p : Fraction) → worth_of kd q ≡ Num p → q ≡ p
worth_num kind.Num q p e = cc
worth_num kind.Past q p e = cc
worth_num kind.Without q p e = cc

more : (fs : List Found) (is : List ℕ) (i : ℕ) (f : Found) → i < length fs → i < length is → f ≡ get_or fs i f → valued_with (take (suc i) fs) (take (suc i) is) ≡ valued_with (take i fs) (take i is) ++ record { expr = f.expr; value = f.value; line = get_or is i 0 } ∷ []
more [] is i f l m e = absurd (omega (arith, l))
more (x ∷ fs) [] i f l m e = absurd (omega (arith, m))
more (x ∷ fs) (j ∷ is) zero f l m e = ap (λ (y : Found). record { expr = y.expr; value = y.value; line = j } ∷ []) (sym e)
more (x ∷ fs) (j ∷ is) (suc i) f l m e = ap (λ vs. record { expr = x.expr; value = x.value; line = j } ∷ vs) (more fs is i f (omega (arith, l)) (omega (arith, m)) e)

pub joined_next : (fs : List Found) (is : List ℕ) (i k : ℕ) (f : Found) (vs ws : List Valued) → k ≡ i → i < length fs → i < length is → f ≡ get_or fs i f → vs ≡ valued_with (take i fs) (take i is) → ws ≡ vs ++ record { expr = f.expr; value = f.value; line = get_or is k 0 } ∷ []
    → ws ≡ valued_with (take (i + 1) fs) (take (i + 1) is)
joined_next fs is i k f vs ws n l m e h w =
    rw add-one (w ∙ ap (λ us. us ++ record { expr = f.expr; value = f.value; line = get_or is k 0 } ∷ []) h ∙ ap (λ j. valued_with (take i fs) (take i is) ++ record { expr = f.expr; value = f.value; line = get_or is j 0 } ∷ []) n ∙ sym (more fs is i f l m e))

pub valued_numbers : (fs : List Found) (is : List ℕ) (ps : List Fraction) → length is ≡ length fs → numbers_of fs ≡ Some ps → fractions_of (valued_with fs is) ≡ ps
valued_numbers [] is ps n e = cc
valued_numbers (f ∷ fs) [] ps n e = absurd (omega (arith, n))
valued_numbers (f ∷ fs) (i ∷ is) ps n e =
    let w = with_some (worth f) (numbers_of fs) ps e in
    let p : f.value ≡ w.0 = worth_num f.kind f.value w.0 w.2 in
    let q = valued_numbers fs is w.1 (omega (arith, n)) w.3 in
    (λ j. p j ∷ q j) ∙ sym w.4

pub all-found-grows : (covers : Sym → Bool) (a b : Book) (ts : List Tree) (fs : List Found) → Grows a b → AllFound covers a ts fs → AllFound covers b ts fs
all-found-grows covers a b [] [] g h = tt
all-found-grows covers a b [] (f ∷ fs) g h = absurd h
all-found-grows covers a b (t ∷ ts) [] g h = absurd h
all-found-grows covers a b (t ∷ ts) (f ∷ fs) g h = (found-grows covers a b t f g h.0, all-found-grows covers a b ts fs g h.1)

module _ (covers : Sym → Bool) (b : Book) where
  pub valued_trees : (ts : List Tree) (fs : List Found) (is : List ℕ) → length is ≡ length fs → AllFound covers b ts fs → trees_of b (valued_with fs is) ≡ ts
  valued_trees [] [] is n h = refl
  valued_trees [] (f ∷ fs) is n h = absurd h
  valued_trees (t ∷ ts) [] is n h = absurd h
  valued_trees (t ∷ ts) (f ∷ fs) [] n h = absurd (omega (arith, n))
  valued_trees (t ∷ ts) (f ∷ fs) (i ∷ is) n h = let p = h.0.stands.tree in let q = valued_trees ts fs is (omega (arith, n)) h.1 in λ j. p j ∷ q j

  one_valued : (t : Tree) (f : Found) (i : ℕ) (p : Fraction) → IsFound covers b t f → worth f ≡ Num p → Proves b i t (normal (setting b.theory.declarations covers) t) → IsValued b (record { expr = f.expr; value = f.value; line = i })
  one_valued t f i p h e l =
      let q : f.value ≡ p = worth_num f.kind f.value p e in
      let m : normal (setting b.theory.declarations covers) t ≡ numeral_tree (sort_of_tree t) f.value = normal-valued (setting b.theory.declarations covers) t f.value (sym h.value ∙ e ∙ ap Num (sym q)) in
      record { here = h.stands.here; proves = rw h.stands.tree (subst (Proves b i t) m l) }

  pub valued_all : (ts : List Tree) (fs : List Found) (is : List ℕ) (ps : List Fraction) → AllFound covers b ts fs → numbers_of fs ≡ Some ps → AllProve b is ts (map (normal (setting b.theory.declarations covers)) ts) → All (IsValued b) (valued_with fs is)
  valued_all [] [] is ps h e l = All-nil (IsValued b)
  valued_all [] (f ∷ fs) is ps h e l = absurd h
  valued_all (t ∷ ts) [] is ps h e l = absurd h
  valued_all (t ∷ ts) (f ∷ fs) [] ps h e l = absurd l
  valued_all (t ∷ ts) (f ∷ fs) (i ∷ is) ps h e l =
      let w = with_some (worth f) (numbers_of fs) ps e in
      All-cons (IsValued b) (record { expr = f.expr; value = f.value; line = i }) (valued_with fs is) (one_valued t f i w.0 h.0 w.2 l.0) (valued_all ts fs is w.1 h.1 w.3 l.1)

  its_length : (is : List ℕ) (ts us : List Tree) (fs : List Found) → AllFound covers b ts fs → AllProve b is ts us → length is ≡ length fs
  its_length [] [] us [] h l = refl
  its_length [] [] us (f ∷ fs) h l = absurd h
  its_length [] (t ∷ ts) us fs h l = absurd l
  its_length (i ∷ is) [] us fs h l = absurd l
  its_length (i ∷ is) (t ∷ ts) [] fs h l = absurd l
  its_length (i ∷ is) (t ∷ ts) (u ∷ us) [] h l = absurd h
  its_length (i ∷ is) (t ∷ ts) (u ∷ us) (f ∷ fs) h l = ap suc (its_length is ts us fs h.1 l.1)

-- the lines of the parts, in the book in which they stand
module _ (covers : Sym → Bool) (a b : Book) (g : Grows a b) (h : Head) (fs : List Found) (ps : List Fraction) (n : IsNumbered covers a h fs ps) (is : List ℕ) (l : AllProve b is n.applied.trees (map (normal (setting a.theory.declarations covers)) n.applied.trees)) where
  found : AllFound covers b n.applied.trees fs
  found = all-found-grows covers a b n.applied.trees fs g n.applied.found

  lines : AllProve b is n.applied.trees (map (normal (setting b.theory.declarations covers)) n.applied.trees)
  lines =
      let q : b.theory ≡ a.theory = g.theory in
      let k : normal (setting b.theory.declarations covers) ≡ normal (setting a.theory.declarations covers) = (λ i. normal (setting (q i).declarations covers)) in
      subst (λ (f : Tree → Tree). AllProve b is n.applied.trees (map f n.applied.trees)) (sym k) l

  pub lines_length : length is ≡ length fs
  lines_length = its_length covers b is n.applied.trees _ fs found l

  pub is_over : IsOver b h.expr h.sym h.sort (valued_with fs is)
  is_over =
      let w = grows-stands a b g h.sort h.expr (App h.sym h.sort (of_list n.applied.trees)) n.applied.stands in
      record {
        here = w.here;
        tree = w.tree ∙ ap (λ ts. App h.sym h.sort (of_list ts)) (sym (valued_trees covers b n.applied.trees fs is lines_length found));
        sorted = rw w.tree w.sorted;
        valued = valued_all covers b n.applied.trees fs is ps found n.numbers lines;
      }

  pub its_numbers : fractions_of (valued_with fs is) ≡ ps
  its_numbers = valued_numbers fs is ps lines_length n.numbers

-- what is found of the whole

abbrev pub applied-grows : (covers : Sym → Bool) (a b : Book) (h : Head) (fs : List Found) → Grows a b → IsApplied covers a h fs → IsApplied covers b h fs
applied-grows covers a b h fs g i = record {
  trees = i.trees;
  stands = grows-stands a b g h.sort h.expr (App h.sym h.sort (of_list i.trees)) i.stands;
  found = all-found-grows covers a b i.trees fs g i.found;
  library = rw g.theory i.library;
}

-- the line that an extension gives
pub its_line : (covers : Sym → Bool) (b : Book) (h : Head) (fs : List Found) (i : IsApplied covers b h fs) (v : Valued) → v.expr ≡ h.expr → IsValued b v → Proves b v.line (whole_of h i.trees) (numeral_tree h.sort v.value)
its_line covers b h fs i v e w = subst (λ (t : Tree). Proves b v.line t (numeral_tree (sort_of_tree t) v.value)) (ap (tree_of b.trees) e ∙ i.stands.tree) w.proves

-- what an extension answers is the value, also in the book as it stands then
module _ (covers : Sym → Bool) (a b : Book) (g : Grows a b) (h : Head) (fs : List Found) (ps : List Fraction) (n : IsNumbered covers a h fs ps) (named : is_named h.sym ≡ true) (vs : List Valued) (e : fractions_of vs ≡ ps) where
  asked : (if covers h.sym then value_over (has_class b.theory.declarations) (tree_of b.trees h.expr) (fractions_of vs) else Without) ≡ (if covers h.sym then named_of (has_class a.theory.declarations) h.sym h.sort ps else Without)
  asked =
      let w = grows-stands a b g h.sort h.expr (App h.sym h.sort (of_list n.applied.trees)) n.applied.stands in
      let p : tree_of b.trees h.expr ≡ App h.sym h.sort (of_list n.applied.trees) = w.tree in
      let q : b.theory ≡ a.theory = g.theory in
      λ j. if covers h.sym then value_over (has_class (q j).declarations) (p j) (e j) else Without

  pub answered : (c : Book) → Grows b c → (v : Value) → (if covers h.sym then value_over (has_class b.theory.declarations) (tree_of b.trees h.expr) (fractions_of vs) else Without) ≡ v → value (setting c.theory.declarations covers) (whole_of h n.applied.trees) ≡ v
  answered c k v m = rw (k.theory, g.theory) (named_value covers a h fs ps n named ∙ sym asked ∙ m)

-- the value of a tree, as callers ask for it

pub moved : (covers : Sym → Bool) (a b : Book) (g : Grows a b) (e : ExprId) → IsIn a.trees e → (v : Value) → value (setting b.theory.declarations covers) (tree_of b.trees e) ≡ v → value (setting a.theory.declarations covers) (tree_of a.trees e) ≡ v
moved covers a b g e here v m =
    let t : tree_of b.trees e ≡ tree_of a.trees e = tree_of-extends a.trees b.trees e g.trees here in
    let q : b.theory ≡ a.theory = g.theory in
    let p : value (setting b.theory.declarations covers) (tree_of b.trees e) ≡ value (setting a.theory.declarations covers) (tree_of a.trees e) = (λ j. value (setting (q j).declarations covers) (t j)) in
    sym p ∙ m

pub valued_at : (a b : Book) → Grows a b → (e : ExprId) (p : Fraction) (i : ℕ) → IsIn a.trees e → Proves b i (tree_of a.trees e) (numeral_tree (sort_of_tree (tree_of a.trees e)) p) → IsValued b (record { expr = e; value = p; line = i })
valued_at a b g e p i here l = record {
  here = IsIn-extends a.trees b.trees e g.trees here;
  proves = subst (λ (t : Tree). Proves b i t (numeral_tree (sort_of_tree t) p)) (sym (tree_of-extends a.trees b.trees e g.trees here)) l;
}
