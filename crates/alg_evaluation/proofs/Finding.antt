-- What is found of a symbol over parts.
use Rattle.std.proofs.Common.{◌≡◌, pos, List, map, refl, ap, sym, ◌∙◌, subst, Bool, true, false, None}
use Rattle.std.specs.List.{list_any}
use Rattle.std.specs.Prelude.{◌||◌, ◌≢◌, if◌then◌else◌}
use Rattle.alg_terms.specs.declared.sorts.Sort.{Sort}
use Rattle.alg_terms.specs.declared.symbols.Sym.{Sym}
use Rattle.alg_terms.specs.Tree.{Tree, Lit, Var, App, of_list, sort_of_tree}
use Rattle.alg_num.specs.Fraction.{Fraction}
use Rattle.alg_law.specs.declared.classes.Class.TheVariants.{Semiring}
use Rattle.alg_law.specs.Having.{has_class}
use Rattle.alg_build.specs.Book.{Book, Grows}
use Rattle.alg_build.specs.Rewriting.{Turns, AllTurn}
use Rattle.alg_build.specs.declared.rewriting.Rewriting.{Rewriting}
use Rattle.alg_build.proofs.Rewritings.{grows-stands}
use Rattle.alg_values.specs.Setting.{Setting, setting}
use Rattle.alg_values.specs.Arithmetic.{whole_number, arithmetic_of}
use Rattle.alg_values.specs.Functions.{is_named, named_of}
use Rattle.alg_values.specs.Normal.{normal, normals, numeral_or}
use Rattle.alg_values.specs.Numerals.{signed_tree, numeral_tree, whole_tree}
use Rattle.alg_values.specs.Values.{value, over, operated, has_past, is_past}
use Rattle.alg_values.specs.declared.value.Value.TheVariants.{Num, Without}
use Rattle.alg_value_laws.specs.Fitting.{AllFit}
use Rattle.alg_value_laws.specs.Places.{sorts_over}
use Rattle.alg_value_laws.proofs.Ranges.{where_num, num_is}
use Rattle.alg_value_laws.proofs.Valuing.{value_fits, values_fit, arithmetic_sorts}
use Rattle.alg_arithmetic.specs.Evaluating.{Evaluates, HasNumeral, signed_trees}
use Rattle.alg_evaluation.specs.declared.found.Found.{Found}
use Rattle.alg_evaluation.specs.declared.found.Kind.{Kind}
use Rattle.alg_evaluation.specs.declared.found.Kind.TheVariants as kind
use Rattle.alg_evaluation.specs.declared.head.Head.{Head}
use Rattle.alg_evaluation.specs.Found.{IsFound, TurnsToNumeral, numbers_of, worth_of}
use Rattle.alg_evaluation.specs.Applied.{IsApplied, IsNumbered}
use Rattle.alg_evaluation.proofs.Parting.{values_found, past_found, numeral_turn, known, parts_sorted, sorts_good, sorts-list}

abbrev pub whole_of : Head → List Tree → Tree
whole_of h ts = App h.sym h.sort (of_list ts)

-- numerals of trees with values

pub normal-valued : (k : Setting) (t : Tree) (p : Fraction) → value k t ≡ Num p → normal k t ≡ numeral_tree (sort_of_tree t) p
unfolding whole_tree
normal-valued k (Lit s n) p e =
    let w = where_num (k.has s Semiring) (Num (whole_number (pos n))) p e in
    ap (numeral_tree s) (num_is (whole_number (pos n)) p w.1)
normal-valued k (Var d s) p e = cc
normal-valued k (App f s ts) p e = ap (λ v. numeral_or s v (App f s (normals k ts))) e

stays : (s : Sort) (kd : Kind) (q : Fraction) (t : Tree) → kd ≢ kind.Num → numeral_or s (worth_of kd q) t ≡ t
stays s kind.Num q t n = absurd (n refl)
stays s kind.Past q t n = refl
stays s kind.Without q t n = refl

no_numeral : (b : Book) (s : Sort) (r : Rewriting) (t : Tree) (kd : Kind) (q : Fraction) → kd ≢ kind.Num → TurnsToNumeral b s r t (worth_of kd q)
no_numeral b s r t kind.Num q n = absurd (n refl)
no_numeral b s r t kind.Past q n = tt
no_numeral b s r t kind.Without q n = tt

pub kept-normal : (covers : Sym → Bool) (a b : Book) (t : Tree) → Grows a b → normal (setting b.theory.declarations covers) t ≡ normal (setting a.theory.declarations covers) t
kept-normal covers a b t g = let q : b.theory ≡ a.theory = g.theory in λ i. normal (setting (q i).declarations covers) t

module _ (covers : Sym → Bool) (a : Book) (h : Head) (fs : List Found) where
  module _ (ps : List Fraction) (n : IsNumbered covers a h fs ps) where
    pub its_value : value (setting a.theory.declarations covers) (whole_of h n.applied.trees) ≡ operated (setting a.theory.declarations covers) h.sym h.sort ps
    its_value = ap (over (setting a.theory.declarations covers) h.sym h.sort) (values_found covers a n.applied.trees fs n.applied.found ∙ n.numbers)

    pub arithmetic_value : is_named h.sym ≡ false → value (setting a.theory.declarations covers) (whole_of h n.applied.trees) ≡ arithmetic_of (has_class a.theory.declarations) h.sym h.sort ps
    arithmetic_value e = its_value ∙ ap (λ t. if t then (if covers h.sym then named_of (has_class a.theory.declarations) h.sym h.sort ps else Without) else arithmetic_of (has_class a.theory.declarations) h.sym h.sort ps) e

    pub named_value : is_named h.sym ≡ true → value (setting a.theory.declarations covers) (whole_of h n.applied.trees) ≡ (if covers h.sym then named_of (has_class a.theory.declarations) h.sym h.sort ps else Without)
    named_value e = its_value ∙ ap (λ t. if t then (if covers h.sym then named_of (has_class a.theory.declarations) h.sym h.sort ps else Without) else arithmetic_of (has_class a.theory.declarations) h.sym h.sort ps) e

    module _ (z : Fraction) (e : arithmetic_of (has_class a.theory.declarations) h.sym h.sort ps ≡ Num z) where
      pub its_sorts : map sort_of_tree n.applied.trees ≡ sorts_over h.sym h.sort
      its_sorts = arithmetic_sorts a.theory.declarations h.sym h.sort (map sort_of_tree n.applied.trees) ps z (sorts_good covers a h n.applied.trees n.applied.stands) e

      pub numerals_turn : AllTurn a (map sort_of_tree n.applied.trees) (map (λ f. f.by) fs) n.applied.trees (signed_trees (sorts_over h.sym h.sort) ps)
      numerals_turn = subst (λ (ss : List Sort). AllTurn a (map sort_of_tree n.applied.trees) (map (λ f. f.by) fs) n.applied.trees (signed_trees ss ps)) its_sorts (numeral_turn covers a n.applied.trees fs ps n.applied.found n.numbers)

      all_fit : AllFit a.theory.declarations (sorts_over h.sym h.sort) ps
      all_fit =
          let f = values_fit a.theory.declarations covers (of_list n.applied.trees) ps (parts_sorted covers a h n.applied.trees n.applied.stands) (values_found covers a n.applied.trees fs n.applied.found ∙ n.numbers) in
          subst (λ (ss : List Sort). AllFit a.theory.declarations ss ps) (sorts-list n.applied.trees ∙ its_sorts) f

      pub evaluates : (b : Book) → Grows a b → Evaluates b h.sym h.sort ps z
      evaluates b g = record {
        known = rw g.theory (known covers a h n.applied.trees n.applied.stands);
        library = rw g.theory n.applied.library;
        fit = rw g.theory all_fit;
        value = rw g.theory e;
      }

  module _ (i : IsApplied covers a h fs) where
    pub has_numeral : (z : Fraction) → value (setting a.theory.declarations covers) (whole_of h i.trees) ≡ Num z → (b : Book) → Grows a b → HasNumeral b h.sort z
    has_numeral z e b g = record {
      known = rw g.theory (known covers a h i.trees i.stands);
      library = rw g.theory i.library;
      fits = rw g.theory (value_fits a.theory.declarations covers (whole_of h i.trees) z i.stands.sorted e);
    }

    pub without_numbers : numbers_of fs ≡ None → value (setting a.theory.declarations covers) (whole_of h i.trees) ≡ Without
    without_numbers e = ap (over (setting a.theory.declarations covers) h.sym h.sort) (values_found covers a i.trees fs i.found ∙ e)

    -- a value
    pub valued_found : (z : Fraction) → value (setting a.theory.declarations covers) (whole_of h i.trees) ≡ Num z → (b : Book) → Grows a b → (by shown : Rewriting) (past : Bool)
        → Turns b h.sort by (whole_of h i.trees) (signed_tree h.sort z) → Turns b h.sort shown (whole_of h i.trees) (numeral_tree h.sort z) → past ≡ list_any (λ f. f.past) fs
        → IsFound covers b (whole_of h i.trees) (record { expr = h.expr; kind = kind.Num; value = z; by = by; shown = shown; past = past })
    valued_found z e b g by shown past t u p =
        let k : Setting = setting a.theory.declarations covers in
        let m : normal k (whole_of h i.trees) ≡ numeral_tree h.sort z = normal-valued k (whole_of h i.trees) z e in
        let q : has_past k (whole_of h i.trees) ≡ list_any (λ f. f.past) fs = (λ j. is_past (e j) || past_found covers a i.trees fs i.found j) in
        record {
          stands = grows-stands a b g h.sort h.expr (whole_of h i.trees) i.stands;
          value = rw g.theory (sym e);
          numeral = t;
          shown = subst (λ (x : Tree). Turns b h.sort shown (whole_of h i.trees) x) (sym (kept-normal covers a b (whole_of h i.trees) g ∙ m)) u;
          past = rw g.theory (p ∙ sym q);
        }

    -- no value
    pub unvalued_found : (kd : Kind) (q : Fraction) → kd ≢ kind.Num → worth_of kd q ≡ value (setting a.theory.declarations covers) (whole_of h i.trees) → (b : Book) → Grows a b → (r : Rewriting) (past : Bool)
        → Turns b h.sort r (whole_of h i.trees) (App h.sym h.sort (normals (setting a.theory.declarations covers) (of_list i.trees))) → past ≡ (is_past (worth_of kd q) || list_any (λ f. f.past) fs)
        → IsFound covers b (whole_of h i.trees) (record { expr = h.expr; kind = kd; value = q; by = r; shown = r; past = past })
    unvalued_found kd q n e b g r past t p =
        let k : Setting = setting a.theory.declarations covers in
        let m : normal k (whole_of h i.trees) ≡ App h.sym h.sort (normals k (of_list i.trees)) = ap (λ v. numeral_or h.sort v (App h.sym h.sort (normals k (of_list i.trees)))) (sym e) ∙ stays h.sort kd q (App h.sym h.sort (normals k (of_list i.trees))) n in
        let o : has_past k (whole_of h i.trees) ≡ (is_past (worth_of kd q) || list_any (λ f. f.past) fs) = (λ j. is_past (sym e j) || past_found covers a i.trees fs i.found j) in
        record {
          stands = grows-stands a b g h.sort h.expr (whole_of h i.trees) i.stands;
          value = rw g.theory e;
          numeral = no_numeral b h.sort r (whole_of h i.trees) kd q n;
          shown = subst (λ (x : Tree). Turns b h.sort r (whole_of h i.trees) x) (sym (kept-normal covers a b (whole_of h i.trees) g ∙ m)) t;
          past = rw g.theory (p ∙ sym o);
        }
