-- Trees that may fill a row, by the letters of the row, and lines that are its premises.
use Rattle.std.proofs.Common.{◌≡◌, ℕ, List, [], ◌∷◌, refl, ap, sym, ◌∙◌, Some, true}
use Rattle.std.specs.Prelude.{map}
use Rattle.alg_terms.specs.declared.sorts.Sort.{Sort}
use Rattle.alg_terms.specs.declared.sorts.Sort.TheVariants.{Nat, Int}
use Rattle.alg_terms.specs.Tree.{Tree, Statement, equal, sort_of_tree}
use Rattle.alg_law.specs.declared.classes.Class.{Class}
use Rattle.alg_law.specs.declared.marks.Mark.TheVariants.{Good}
use Rattle.alg_law.specs.Declarations.{Declaration}
use Rattle.alg_law.specs.Having.{has_class}
use Rattle.alg_law.specs.WellSorted.{IsWellSorted, sort_mark}
use Rattle.alg_law.proofs.WellSortedLaws.{known-from_good}
use Rattle.alg_law.specs.Patterns.{letter_sort}
use Rattle.alg_law.specs.Rows.{Row, letters_of, meets_all, MayFill}
use Rattle.alg_proof.specs.Causes.{statements_at}
use Rattle.alg_lemma.specs.Library.{HoldsLibrary}
use Rattle.alg_build.specs.Book.{Book, Concludes, Grows, Proves}
use Rattle.alg_build.proofs.Rewritings.{rewritings}

-- a name ends in the letters of the row where they aren't the first of a, b, c, d

module _ (ds : List Declaration) (r : Row) (s : Sort) (needs : meets_all ds s r.needs ≡ true) where
  pub one_fills : (t : Tree) → letters_of r ≡ 0 ∷ [] → IsWellSorted ds t → sort_of_tree t ≡ s → MayFill ds r s (t ∷ [])
  one_fills t l gt et = record {
    known = ap (sort_mark ds) (sym et) ∙ known-from_good ds t gt;
    needs = needs;
    sorts = (λ i. et i ∷ []) ∙ ap (map (letter_sort s)) (sym l);
    trees = rw gt refl;
  }

  pub two_fill : (t u : Tree) → letters_of r ≡ 0 ∷ 1 ∷ [] → IsWellSorted ds t → IsWellSorted ds u → sort_of_tree t ≡ s → sort_of_tree u ≡ s → MayFill ds r s (t ∷ u ∷ [])
  two_fill t u l gt gu et eu = record {
    known = ap (sort_mark ds) (sym et) ∙ known-from_good ds t gt;
    needs = needs;
    sorts = (λ i. et i ∷ eu i ∷ []) ∙ ap (map (letter_sort s)) (sym l);
    trees = rw (gt, gu) refl;
  }

  pub three_fill : (t u v : Tree) → letters_of r ≡ 0 ∷ 1 ∷ 2 ∷ [] → IsWellSorted ds t → IsWellSorted ds u → IsWellSorted ds v → sort_of_tree t ≡ s → sort_of_tree u ≡ s → sort_of_tree v ≡ s → MayFill ds r s (t ∷ u ∷ v ∷ [])
  three_fill t u v l gt gu gv et eu ev = record {
    known = ap (sort_mark ds) (sym et) ∙ known-from_good ds t gt;
    needs = needs;
    sorts = (λ i. et i ∷ eu i ∷ ev i ∷ []) ∙ ap (map (letter_sort s)) (sym l);
    trees = rw (gt, gu, gv) refl;
  }

  pub four_fill : (t u v w : Tree) → letters_of r ≡ 0 ∷ 1 ∷ 2 ∷ 3 ∷ [] → IsWellSorted ds t → IsWellSorted ds u → IsWellSorted ds v → IsWellSorted ds w → sort_of_tree t ≡ s → sort_of_tree u ≡ s → sort_of_tree v ≡ s → sort_of_tree w ≡ s → MayFill ds r s (t ∷ u ∷ v ∷ w ∷ [])
  four_fill t u v w l gt gu gv gw et eu ev ew = record {
    known = ap (sort_mark ds) (sym et) ∙ known-from_good ds t gt;
    needs = needs;
    sorts = (λ i. et i ∷ eu i ∷ ev i ∷ ew i ∷ []) ∙ ap (map (letter_sort s)) (sym l);
    trees = rw (gt, gu, gv, gw) refl;
  }

  pub none_fills : letters_of r ≡ [] → sort_mark ds s ≡ Good → MayFill ds r s []
  none_fills l known = record {
    known = known;
    needs = needs;
    sorts = ap (map (letter_sort s)) (sym l);
    trees = refl;
  }

  pub fill-n : (t : Tree) → letters_of r ≡ 5 ∷ [] → sort_mark ds s ≡ Good → IsWellSorted ds t → sort_of_tree t ≡ Nat → MayFill ds r s (t ∷ [])
  fill-n t l known gt et = record {
    known = known;
    needs = needs;
    sorts = (λ i. et i ∷ []) ∙ ap (map (letter_sort s)) (sym l);
    trees = rw gt refl;
  }

  pub fill-an : (t u : Tree) → letters_of r ≡ 0 ∷ 5 ∷ [] → IsWellSorted ds t → IsWellSorted ds u → sort_of_tree t ≡ s → sort_of_tree u ≡ Nat → MayFill ds r s (t ∷ u ∷ [])
  fill-an t u l gt gu et eu = record {
    known = ap (sort_mark ds) (sym et) ∙ known-from_good ds t gt;
    needs = needs;
    sorts = (λ i. et i ∷ eu i ∷ []) ∙ ap (map (letter_sort s)) (sym l);
    trees = rw (gt, gu) refl;
  }

  pub fill-ai : (t u : Tree) → letters_of r ≡ 0 ∷ 6 ∷ [] → IsWellSorted ds t → IsWellSorted ds u → sort_of_tree t ≡ s → sort_of_tree u ≡ Int → MayFill ds r s (t ∷ u ∷ [])
  fill-ai t u l gt gu et eu = record {
    known = ap (sort_mark ds) (sym et) ∙ known-from_good ds t gt;
    needs = needs;
    sorts = (λ i. et i ∷ eu i ∷ []) ∙ ap (map (letter_sort s)) (sym l);
    trees = rw (gt, gu) refl;
  }

  pub fill-abd : (t u v : Tree) → letters_of r ≡ 0 ∷ 1 ∷ 3 ∷ [] → IsWellSorted ds t → IsWellSorted ds u → IsWellSorted ds v → sort_of_tree t ≡ s → sort_of_tree u ≡ s → sort_of_tree v ≡ s → MayFill ds r s (t ∷ u ∷ v ∷ [])
  fill-abd t u v l gt gu gv et eu ev = record {
    known = ap (sort_mark ds) (sym et) ∙ known-from_good ds t gt;
    needs = needs;
    sorts = (λ i. et i ∷ eu i ∷ ev i ∷ []) ∙ ap (map (letter_sort s)) (sym l);
    trees = rw (gt, gu, gv) refl;
  }

  pub fill-abn : (t u v : Tree) → letters_of r ≡ 0 ∷ 1 ∷ 5 ∷ [] → IsWellSorted ds t → IsWellSorted ds u → IsWellSorted ds v → sort_of_tree t ≡ s → sort_of_tree u ≡ s → sort_of_tree v ≡ Nat → MayFill ds r s (t ∷ u ∷ v ∷ [])
  fill-abn t u v l gt gu gv et eu ev = record {
    known = ap (sort_mark ds) (sym et) ∙ known-from_good ds t gt;
    needs = needs;
    sorts = (λ i. et i ∷ eu i ∷ ev i ∷ []) ∙ ap (map (letter_sort s)) (sym l);
    trees = rw (gt, gu, gv) refl;
  }

  pub fill-abi : (t u v : Tree) → letters_of r ≡ 0 ∷ 1 ∷ 6 ∷ [] → IsWellSorted ds t → IsWellSorted ds u → IsWellSorted ds v → sort_of_tree t ≡ s → sort_of_tree u ≡ s → sort_of_tree v ≡ Int → MayFill ds r s (t ∷ u ∷ v ∷ [])
  fill-abi t u v l gt gu gv et eu ev = record {
    known = ap (sort_mark ds) (sym et) ∙ known-from_good ds t gt;
    needs = needs;
    sorts = (λ i. et i ∷ eu i ∷ ev i ∷ []) ∙ ap (map (letter_sort s)) (sym l);
    trees = rw (gt, gu, gv) refl;
  }

  pub fill-acd : (t u v : Tree) → letters_of r ≡ 0 ∷ 2 ∷ 3 ∷ [] → IsWellSorted ds t → IsWellSorted ds u → IsWellSorted ds v → sort_of_tree t ≡ s → sort_of_tree u ≡ s → sort_of_tree v ≡ s → MayFill ds r s (t ∷ u ∷ v ∷ [])
  fill-acd t u v l gt gu gv et eu ev = record {
    known = ap (sort_mark ds) (sym et) ∙ known-from_good ds t gt;
    needs = needs;
    sorts = (λ i. et i ∷ eu i ∷ ev i ∷ []) ∙ ap (map (letter_sort s)) (sym l);
    trees = rw (gt, gu, gv) refl;
  }

  pub fill-amn : (t u v : Tree) → letters_of r ≡ 0 ∷ 4 ∷ 5 ∷ [] → IsWellSorted ds t → IsWellSorted ds u → IsWellSorted ds v → sort_of_tree t ≡ s → sort_of_tree u ≡ Nat → sort_of_tree v ≡ Nat → MayFill ds r s (t ∷ u ∷ v ∷ [])
  fill-amn t u v l gt gu gv et eu ev = record {
    known = ap (sort_mark ds) (sym et) ∙ known-from_good ds t gt;
    needs = needs;
    sorts = (λ i. et i ∷ eu i ∷ ev i ∷ []) ∙ ap (map (letter_sort s)) (sym l);
    trees = rw (gt, gu, gv) refl;
  }

  pub fill-aij : (t u v : Tree) → letters_of r ≡ 0 ∷ 6 ∷ 7 ∷ [] → IsWellSorted ds t → IsWellSorted ds u → IsWellSorted ds v → sort_of_tree t ≡ s → sort_of_tree u ≡ Int → sort_of_tree v ≡ Int → MayFill ds r s (t ∷ u ∷ v ∷ [])
  fill-aij t u v l gt gu gv et eu ev = record {
    known = ap (sort_mark ds) (sym et) ∙ known-from_good ds t gt;
    needs = needs;
    sorts = (λ i. et i ∷ eu i ∷ ev i ∷ []) ∙ ap (map (letter_sort s)) (sym l);
    trees = rw (gt, gu, gv) refl;
  }

  pub fill-bcm : (t u v : Tree) → letters_of r ≡ 1 ∷ 2 ∷ 4 ∷ [] → IsWellSorted ds t → IsWellSorted ds u → IsWellSorted ds v → sort_of_tree t ≡ s → sort_of_tree u ≡ s → sort_of_tree v ≡ Nat → MayFill ds r s (t ∷ u ∷ v ∷ [])
  fill-bcm t u v l gt gu gv et eu ev = record {
    known = ap (sort_mark ds) (sym et) ∙ known-from_good ds t gt;
    needs = needs;
    sorts = (λ i. et i ∷ eu i ∷ ev i ∷ []) ∙ ap (map (letter_sort s)) (sym l);
    trees = rw (gt, gu, gv) refl;
  }

  pub fill-abcn : (t u v w : Tree) → letters_of r ≡ 0 ∷ 1 ∷ 2 ∷ 5 ∷ [] → IsWellSorted ds t → IsWellSorted ds u → IsWellSorted ds v → IsWellSorted ds w → sort_of_tree t ≡ s → sort_of_tree u ≡ s → sort_of_tree v ≡ s → sort_of_tree w ≡ Nat → MayFill ds r s (t ∷ u ∷ v ∷ w ∷ [])
  fill-abcn t u v w l gt gu gv gw et eu ev ew = record {
    known = ap (sort_mark ds) (sym et) ∙ known-from_good ds t gt;
    needs = needs;
    sorts = (λ i. et i ∷ eu i ∷ ev i ∷ ew i ∷ []) ∙ ap (map (letter_sort s)) (sym l);
    trees = rw (gt, gu, gv, gw) refl;
  }

  pub fill-abci : (t u v w : Tree) → letters_of r ≡ 0 ∷ 1 ∷ 2 ∷ 6 ∷ [] → IsWellSorted ds t → IsWellSorted ds u → IsWellSorted ds v → IsWellSorted ds w → sort_of_tree t ≡ s → sort_of_tree u ≡ s → sort_of_tree v ≡ s → sort_of_tree w ≡ Int → MayFill ds r s (t ∷ u ∷ v ∷ w ∷ [])
  fill-abci t u v w l gt gu gv gw et eu ev ew = record {
    known = ap (sort_mark ds) (sym et) ∙ known-from_good ds t gt;
    needs = needs;
    sorts = (λ i. et i ∷ eu i ∷ ev i ∷ ew i ∷ []) ∙ ap (map (letter_sort s)) (sym l);
    trees = rw (gt, gu, gv, gw) refl;
  }

  pub fill-abmn : (t u v w : Tree) → letters_of r ≡ 0 ∷ 1 ∷ 4 ∷ 5 ∷ [] → IsWellSorted ds t → IsWellSorted ds u → IsWellSorted ds v → IsWellSorted ds w → sort_of_tree t ≡ s → sort_of_tree u ≡ s → sort_of_tree v ≡ Nat → sort_of_tree w ≡ Nat → MayFill ds r s (t ∷ u ∷ v ∷ w ∷ [])
  fill-abmn t u v w l gt gu gv gw et eu ev ew = record {
    known = ap (sort_mark ds) (sym et) ∙ known-from_good ds t gt;
    needs = needs;
    sorts = (λ i. et i ∷ eu i ∷ ev i ∷ ew i ∷ []) ∙ ap (map (letter_sort s)) (sym l);
    trees = rw (gt, gu, gv, gw) refl;
  }

  pub fill-abij : (t u v w : Tree) → letters_of r ≡ 0 ∷ 1 ∷ 6 ∷ 7 ∷ [] → IsWellSorted ds t → IsWellSorted ds u → IsWellSorted ds v → IsWellSorted ds w → sort_of_tree t ≡ s → sort_of_tree u ≡ s → sort_of_tree v ≡ Int → sort_of_tree w ≡ Int → MayFill ds r s (t ∷ u ∷ v ∷ w ∷ [])
  fill-abij t u v w l gt gu gv gw et eu ev ew = record {
    known = ap (sort_mark ds) (sym et) ∙ known-from_good ds t gt;
    needs = needs;
    sorts = (λ i. et i ∷ eu i ∷ ev i ∷ ew i ∷ []) ∙ ap (map (letter_sort s)) (sym l);
    trees = rw (gt, gu, gv, gw) refl;
  }

  pub fill-abcdn : (t u v w x : Tree) → letters_of r ≡ 0 ∷ 1 ∷ 2 ∷ 3 ∷ 5 ∷ [] → IsWellSorted ds t → IsWellSorted ds u → IsWellSorted ds v → IsWellSorted ds w → IsWellSorted ds x → sort_of_tree t ≡ s → sort_of_tree u ≡ s → sort_of_tree v ≡ s → sort_of_tree w ≡ s → sort_of_tree x ≡ Nat → MayFill ds r s (t ∷ u ∷ v ∷ w ∷ x ∷ [])
  fill-abcdn t u v w x l gt gu gv gw gx et eu ev ew ex = record {
    known = ap (sort_mark ds) (sym et) ∙ known-from_good ds t gt;
    needs = needs;
    sorts = (λ i. et i ∷ eu i ∷ ev i ∷ ew i ∷ ex i ∷ []) ∙ ap (map (letter_sort s)) (sym l);
    trees = rw (gt, gu, gv, gw, gx) refl;
  }

  pub fill-abcmn : (t u v w x : Tree) → letters_of r ≡ 0 ∷ 1 ∷ 2 ∷ 4 ∷ 5 ∷ [] → IsWellSorted ds t → IsWellSorted ds u → IsWellSorted ds v → IsWellSorted ds w → IsWellSorted ds x → sort_of_tree t ≡ s → sort_of_tree u ≡ s → sort_of_tree v ≡ s → sort_of_tree w ≡ Nat → sort_of_tree x ≡ Nat → MayFill ds r s (t ∷ u ∷ v ∷ w ∷ x ∷ [])
  fill-abcmn t u v w x l gt gu gv gw gx et eu ev ew ex = record {
    known = ap (sort_mark ds) (sym et) ∙ known-from_good ds t gt;
    needs = needs;
    sorts = (λ i. et i ∷ eu i ∷ ev i ∷ ew i ∷ ex i ∷ []) ∙ ap (map (letter_sort s)) (sym l);
    trees = rw (gt, gu, gv, gw, gx) refl;
  }

  pub fill-abnij : (t u v w x : Tree) → letters_of r ≡ 0 ∷ 1 ∷ 5 ∷ 6 ∷ 7 ∷ [] → IsWellSorted ds t → IsWellSorted ds u → IsWellSorted ds v → IsWellSorted ds w → IsWellSorted ds x → sort_of_tree t ≡ s → sort_of_tree u ≡ s → sort_of_tree v ≡ Nat → sort_of_tree w ≡ Int → sort_of_tree x ≡ Int → MayFill ds r s (t ∷ u ∷ v ∷ w ∷ x ∷ [])
  fill-abnij t u v w x l gt gu gv gw gx et eu ev ew ex = record {
    known = ap (sort_mark ds) (sym et) ∙ known-from_good ds t gt;
    needs = needs;
    sorts = (λ i. et i ∷ eu i ∷ ev i ∷ ew i ∷ ex i ∷ []) ∙ ap (map (letter_sort s)) (sym l);
    trees = rw (gt, gu, gv, gw, gx) refl;
  }

-- the premises of a row, where lines prove them

module _ (b : Book) where
  pub no_premise : statements_at b.done [] ≡ Some []
  no_premise = refl

  pub one_premise : (i : ℕ) (x y : Tree) → Proves b i x y → statements_at b.done (i ∷ []) ≡ Some (equal x y ∷ [])
  one_premise i x y p = rw p.line refl

  pub two_premises : (i j : ℕ) (x y z u : Tree) → Proves b i x y → Proves b j z u → statements_at b.done (i ∷ j ∷ []) ≡ Some (equal x y ∷ equal z u ∷ [])
  two_premises i j x y z u p q = rw (p.line, q.line) refl

  pub three_premises : (i j k : ℕ) (x y z u v w : Tree) → Proves b i x y → Proves b j z u → Proves b k v w → statements_at b.done (i ∷ j ∷ k ∷ []) ≡ Some (equal x y ∷ equal z u ∷ equal v w ∷ [])
  three_premises i j k x y z u v w p q r = rw (p.line, q.line, r.line) refl

  -- of any relations

  pub one_statement : (i : ℕ) (s : Statement) → Concludes b i s → statements_at b.done (i ∷ []) ≡ Some (s ∷ [])
  one_statement i s p = rw p.line refl

  pub two_statements : (i j : ℕ) (s t : Statement) → Concludes b i s → Concludes b j t → statements_at b.done (i ∷ j ∷ []) ≡ Some (s ∷ t ∷ [])
  two_statements i j s t p q = rw (p.line, q.line) refl

  pub three_statements : (i j k : ℕ) (s t u : Statement) → Concludes b i s → Concludes b j t → Concludes b k u → statements_at b.done (i ∷ j ∷ k ∷ []) ≡ Some (s ∷ t ∷ u ∷ [])
  three_statements i j k s t u p q r = rw (p.line, q.line, r.line) refl

  pub proves-concludes : (i : ℕ) (x y : Tree) → Proves b i x y → Concludes b i (equal x y)
  proves-concludes i x y p = record { line = p.line }

-- what was asked of the book stays as it grows

module _ (a b : Book) where
  pub grows-class : (s : Sort) (k : Class) → Grows a b → has_class a.theory.declarations s k ≡ true → has_class b.theory.declarations s k ≡ true
  grows-class s k g h = rw g.theory h

  pub grows-known : (s : Sort) → Grows a b → sort_mark a.theory.declarations s ≡ Good → sort_mark b.theory.declarations s ≡ Good
  grows-known s g h = rw g.theory h

  pub grows-library : Grows a b → HoldsLibrary a.theory.lemmas → HoldsLibrary b.theory.lemmas
  grows-library g h = rw g.theory h

pub ruleset row_facts = (rewritings, one_fills, two_fill, three_fill, four_fill, none_fills, fill-n, fill-an, fill-ai, fill-abd, fill-abn, fill-abi, fill-acd, fill-amn, fill-aij, fill-bcm, fill-abcn, fill-abci, fill-abmn, fill-abij, fill-abcdn, fill-abcmn, fill-abnij, no_premise, one_premise, two_premises, three_premises, one_statement, two_statements, three_statements, grows-class, grows-known, grows-library)
