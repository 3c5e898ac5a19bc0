-- The parts of a tree, and what is found of them.
use Rattle.std.proofs.Common.{◌≡◌, ℕ, suc, ◌+◌, ◌<◌, List, [], ◌∷◌, ◌++◌, length, get_or, drop, map, refl, ap, sym, ◌∙◌, subst, Bool, add-one, append_assoc, append-nil, Some, None, Option}
use Rattle.std.specs.List.{list_any}
use Rattle.std.specs.Prelude.{◌||◌, option_map}
use Rattle.std.proofs.Math.Seq.{drop-cons}
use Rattle.std.proofs.lemmas.List.Elements.{All-head, All-tail}
use Rattle.alg_terms.specs.declared.symbols.Sym.{Sym}
use Rattle.alg_terms.specs.Tree.{Tree, App, Cons, of_list, sort_of_tree}
use Rattle.alg_num.specs.Fraction.{Fraction}
use Rattle.alg_expr.specs.declared.ids.ExprId.{ExprId}
use Rattle.alg_expr.specs.Ids.{tree_of, trees_at, IsIn}
use Rattle.alg_law.specs.declared.marks.Mark.TheVariants.{Good}
use Rattle.alg_law.specs.WellSorted.{AreWellSorted, head_mark, sort_mark, symbol_mark, marks_of, sorts_of}
use Rattle.alg_law.proofs.WellSortedLaws.{worse-parts}
use Rattle.alg_build.specs.Book.{Book}
use Rattle.alg_build.specs.Rewriting.{AllTurn, Heads, PartsTurn, Stands, Turns}
use Rattle.alg_build.proofs.Rewritings.{parts-turn}
use Rattle.alg_marks.specs.Walks.{ArePartsAt}
use Rattle.alg_values.specs.Setting.{Setting, setting}
use Rattle.alg_values.specs.Normal.{normal, normals}
use Rattle.alg_values.specs.Numerals.{signed_tree}
use Rattle.alg_values.specs.Values.{values, with_value, have_past}
use Rattle.alg_values.specs.declared.value.Value.{Value}
use Rattle.alg_values.specs.declared.value.Value.TheVariants.{Num, Past, Without}
use Rattle.alg_arithmetic.specs.Evaluating.{signed_trees}
use Rattle.alg_evaluation.specs.declared.found.Found.{Found}
use Rattle.alg_evaluation.specs.declared.head.Head.{Head}
use Rattle.alg_evaluation.specs.Found.{IsFound, AllFound, TurnsToNumeral, numbers_of, worth, absent}

-- numbers one after another

abbrev pub onto : List Fraction → Option (List Fraction) → Option (List Fraction)
onto ps None = None
onto ps (Some qs) = Some (ps ++ qs)

pub onto-none : (o : Option (List Fraction)) → o ≡ onto [] o
onto-none None = refl
onto-none (Some qs) = refl

onto-next : (ps : List Fraction) (p : Fraction) (o : Option (List Fraction)) → onto ps (with_value (Num p) o) ≡ onto (ps ++ p ∷ []) o
onto-next ps p None = refl
onto-next ps p (Some qs) = ap Some (sym (append_assoc ps (p ∷ []) qs))

numbers-drop : (fs : List Found) (i : ℕ) (f : Found) → i < length fs → numbers_of (drop i fs) ≡ with_value (worth (get_or fs i f)) (numbers_of (drop (suc i) fs))
numbers-drop fs i f l = ap numbers_of (drop-cons fs i f l)

pub numbers_next : (fs : List Found) (i : ℕ) (f : Found) (ps : List Fraction) (p : Fraction) (o : Option (List Fraction)) → i < length fs → f ≡ get_or fs i f → o ≡ onto ps (numbers_of (drop i fs)) → Num p ≡ worth f
    → o ≡ onto (ps ++ p ∷ []) (numbers_of (drop (i + 1) fs))
numbers_next fs i f ps p o l e h v =
    rw add-one (h ∙ ap (onto ps) (numbers-drop fs i f l) ∙ ap (λ w. onto ps (with_value w (numbers_of (drop (suc i) fs)))) (ap worth (sym e) ∙ sym v) ∙ onto-next ps p (numbers_of (drop (suc i) fs)))

pub numbers_past : (fs : List Found) (i : ℕ) (f : Found) (ps : List Fraction) (o : Option (List Fraction)) → i < length fs → f ≡ get_or fs i f → o ≡ onto ps (numbers_of (drop i fs)) → Past ≡ worth f → o ≡ None
numbers_past fs i f ps o l e h v = h ∙ ap (onto ps) (numbers-drop fs i f l) ∙ ap (λ w. onto ps (with_value w (numbers_of (drop (suc i) fs)))) (ap worth (sym e) ∙ sym v)

pub numbers_without : (fs : List Found) (i : ℕ) (f : Found) (ps : List Fraction) (o : Option (List Fraction)) → i < length fs → f ≡ get_or fs i f → o ≡ onto ps (numbers_of (drop i fs)) → Without ≡ worth f → o ≡ None
numbers_without fs i f ps o l e h v = h ∙ ap (onto ps) (numbers-drop fs i f l) ∙ ap (λ w. onto ps (with_value w (numbers_of (drop (suc i) fs)))) (ap worth (sym e) ∙ sym v)

pub numbers_end : (fs : List Found) (i : ℕ) (ps : List Fraction) (o : Option (List Fraction)) → drop i fs ≡ [] → o ≡ onto ps (numbers_of (drop i fs)) → o ≡ Some ps
numbers_end fs i ps o d h = h ∙ ap (λ gs. onto ps (numbers_of gs)) d ∙ ap Some (append-nil ps)

-- an option of a vector, as one of a list

pub some_of : {V : Type 0} (items : V → List Fraction) (o : Option V) (r : Option (List Fraction)) (v : V) → option_map items o ≡ r → o ≡ Some v → r ≡ Some (items v)
some_of items o r v e p = sym e ∙ ap (option_map items) p

pub none_of : {V : Type 0} (items : V → List Fraction) (o : Option V) (r : Option (List Fraction)) → option_map items o ≡ r → o ≡ None → r ≡ None
none_of items o r e p = sym e ∙ ap (option_map items) p

pub with_some : (v : Value) (o : Option (List Fraction)) (ps : List Fraction) → with_value v o ≡ Some ps → (p : Fraction) × (qs : List Fraction) × (v ≡ Num p) × (o ≡ Some qs) × (ps ≡ p ∷ qs)
with_some (Num p) (Some qs) ps e = (p, qs, refl, refl, cc)
with_some (Num p) None ps e = cc
with_some Past o ps e = cc
with_some Without o ps e = cc

-- what is found of the parts, together

pub normals-list : (k : Setting) (ts : List Tree) → normals k (of_list ts) ≡ of_list (map (normal k) ts)
normals-list k [] = refl
normals-list k (t ∷ ts) = ap (Cons (normal k t)) (normals-list k ts)

pub sorts-list : (ts : List Tree) → sorts_of (of_list ts) ≡ map sort_of_tree ts
sorts-list [] = refl
sorts-list (t ∷ ts) = ap (λ ss. sort_of_tree t ∷ ss) (sorts-list ts)

module _ (covers : Sym → Bool) (b : Book) where
  pub values_found : (ts : List Tree) (fs : List Found) → AllFound covers b ts fs → values (setting b.theory.declarations covers) (of_list ts) ≡ numbers_of fs
  values_found [] [] h = refl
  values_found [] (f ∷ fs) h = absurd h
  values_found (t ∷ ts) [] h = absurd h
  values_found (t ∷ ts) (f ∷ fs) h = let p = h.0.value in let q = values_found ts fs h.1 in λ i. with_value (sym p i) (q i)

  pub past_found : (ts : List Tree) (fs : List Found) → AllFound covers b ts fs → have_past (setting b.theory.declarations covers) (of_list ts) ≡ list_any (λ f. f.past) fs
  past_found [] [] h = refl
  past_found [] (f ∷ fs) h = absurd h
  past_found (t ∷ ts) [] h = absurd h
  past_found (t ∷ ts) (f ∷ fs) h = let p = h.0.past in let q = past_found ts fs h.1 in λ i. sym p i || q i

  pub shown_turn : (ts : List Tree) (fs : List Found) → AllFound covers b ts fs → AllTurn b (map sort_of_tree ts) (map (λ f. f.shown) fs) ts (map (normal (setting b.theory.declarations covers)) ts)
  shown_turn [] [] h = tt
  shown_turn [] (f ∷ fs) h = absurd h
  shown_turn (t ∷ ts) [] h = absurd h
  shown_turn (t ∷ ts) (f ∷ fs) h = (h.0.shown, shown_turn ts fs h.1)

  pub numeral_turn : (ts : List Tree) (fs : List Found) (ps : List Fraction) → AllFound covers b ts fs → numbers_of fs ≡ Some ps → AllTurn b (map sort_of_tree ts) (map (λ f. f.by) fs) ts (signed_trees (map sort_of_tree ts) ps)
  numeral_turn [] [] ps h e = tt
  numeral_turn [] (f ∷ fs) ps h e = absurd h
  numeral_turn (t ∷ ts) [] ps h e = absurd h
  numeral_turn (t ∷ ts) (f ∷ fs) ps h e =
      let w = with_some (worth f) (numbers_of fs) ps e in
      let first : Turns b (sort_of_tree t) f.by t (signed_tree (sort_of_tree t) w.0) = subst (TurnsToNumeral b (sort_of_tree t) f.by t) w.2 h.0.numeral in
      let rest = numeral_turn ts fs w.1 h.1 w.3 in
      subst (λ (qs : List Fraction). AllTurn b (map sort_of_tree (t ∷ ts)) (map (λ f. f.by) (f ∷ fs)) (t ∷ ts) (signed_trees (map sort_of_tree (t ∷ ts)) qs)) (sym w.4) (first, rest)

  module _ (h : Head) (ts : List Tree) (stands : Stands b h.sort h.expr (App h.sym h.sort (of_list ts))) where
    good : head_mark b.theory.declarations h.sym h.sort (sorts_of (of_list ts)) ≡ Good
    good = (worse-parts (head_mark b.theory.declarations h.sym h.sort (sorts_of (of_list ts))) (marks_of b.theory.declarations (of_list ts)) stands.sorted).0

    pub parts_sorted : AreWellSorted b.theory.declarations (of_list ts)
    parts_sorted = (worse-parts (head_mark b.theory.declarations h.sym h.sort (sorts_of (of_list ts))) (marks_of b.theory.declarations (of_list ts)) stands.sorted).1

    pub sorts_good : head_mark b.theory.declarations h.sym h.sort (map sort_of_tree ts) ≡ Good
    sorts_good = ap (head_mark b.theory.declarations h.sym h.sort) (sym (sorts-list ts)) ∙ good

    pub known : sort_mark b.theory.declarations h.sort ≡ Good
    known = (worse-parts (sort_mark b.theory.declarations h.sort) (symbol_mark b.theory.declarations h.sym h.sort (map sort_of_tree ts)) sorts_good).0

    pub its_heads : Heads b h.sym h.sort (map sort_of_tree ts)
    its_heads = record { good = sorts_good }

    pub shown_parts : (fs : List Found) → AllFound covers b ts fs → PartsTurn b h.expr h.sym (map (λ f. f.shown) fs)
    shown_parts fs a = parts-turn b h.expr h.sym (map (λ f. f.shown) fs) h.sort (map sort_of_tree ts) ts (map (normal (setting b.theory.declarations covers)) ts) stands (shown_turn ts fs a) its_heads

    pub numeral_parts : (fs : List Found) (ps : List Fraction) → AllFound covers b ts fs → numbers_of fs ≡ Some ps → PartsTurn b h.expr h.sym (map (λ f. f.by) fs)
    numeral_parts fs ps a e = parts-turn b h.expr h.sym (map (λ f. f.by) fs) h.sort (map sort_of_tree ts) ts (signed_trees (map sort_of_tree ts) ps) stands (numeral_turn ts fs ps a e) its_heads

-- of the parts that the walk has passed

rest_at : (covers : Sym → Bool) (b : Book) (found : List Found) (a : ExprId) (args : List ExprId) → ArePartsAt (IsFound covers) absent b found (a ∷ args) → ArePartsAt (IsFound covers) absent b found args
rest_at covers b found a args h = record {
  here = All-tail (IsIn b.trees) a args h.here;
  below = All-tail (λ a. a.index < length found) a args h.below;
  each = All-tail (λ a. IsFound covers b (tree_of b.trees a) (get_or found a.index absent)) a args h.each;
}

pub parts_found : (covers : Sym → Bool) (b : Book) (found : List Found) (args : List ExprId) → ArePartsAt (IsFound covers) absent b found args → AllFound covers b (trees_at b.trees args) (map (λ a. get_or found a.index absent) args)
parts_found covers b found [] h = tt
parts_found covers b found (a ∷ args) h = (All-head (λ a. IsFound covers b (tree_of b.trees a) (get_or found a.index absent)) a args h.each, parts_found covers b found args (rest_at covers b found a args h))
