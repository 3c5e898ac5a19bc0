-- Lines for a goal whose sides have values.
use Rattle.std.proofs.Common.{◌≡◌, ℕ, suc, List, ℤ, pos, negsuc, true, refl, ap, ap₂, sym, ◌∙◌, subst, ◌⊎◌, inl, inr, None}
use Rattle.std.specs.Cmp.Derive.{both_true}
use Rattle.std.proofs.lemmas.Bool.{lt-ltb}
use Rattle.alg_terms.specs.declared.sorts.Sort.{Sort}
use Rattle.alg_terms.specs.declared.sorts.Sort.TheVariants.{Nat, Int, Rat, Decl}
use Rattle.alg_terms.specs.declared.relations.Rel.TheVariants.{Dvd}
use Rattle.alg_terms.specs.Symbols.{is_integral}
use Rattle.alg_terms.specs.Tree.{Tree, Statement}
use Rattle.alg_num.specs.Fraction.{Fraction}
use Rattle.alg_num.specs.Range.{InRange}
use Rattle.alg_expr.specs.declared.ids.Stmt.{Stmt}
use Rattle.alg_expr.specs.Ids.{tree_of, statement_of, IsStatementIn}
use Rattle.alg_expr.proofs.ArenaLaws.{tree_of-extends}
use Rattle.alg_law.specs.declared.classes.Class.TheVariants.{Ring, AddGroup}
use Rattle.alg_law.specs.declared.marks.Mark.TheVariants.{Good}
use Rattle.alg_law.specs.Computing.{divides}
use Rattle.alg_law.specs.Declarations.{Declaration}
use Rattle.alg_law.specs.Derivations.{related}
use Rattle.alg_law.specs.WellSorted.{sort_mark}
use Rattle.alg_law.proofs.HavingLaws.{has_class-all}
use Rattle.alg_law.proofs.WellSortedLaws.{known-from_good}
use Rattle.alg_lemma.specs.Library.{HoldsLibrary}
use Rattle.alg_proof.specs.Computations.{has_numeral, numeral_at}
use Rattle.alg_proof.specs.Steps.{Step}
use Rattle.alg_build.specs.Book.{Adds, Book, Concludes, Grows}
use Rattle.alg_build.specs.Computing.{Divides}
use Rattle.alg_build.specs.Rewriting.{Relates, Turns}
use Rattle.alg_build.proofs.Lines.{adds-concludes, adds-grows, lines}
use Rattle.alg_build.proofs.Rewritings.{grows-stands, grows-turns}
use Rattle.alg_build.specs.Answer.{Closes}
use Rattle.alg_ends.specs.CommonEnd.{common_end, is_reflexive}
use Rattle.alg_ends.proofs.EndFacts.{left_stands, right_stands}
use Rattle.alg_numerals.specs.Numerals.{HasLiterals}
use Rattle.alg_numerals.proofs.RelationLemmas.{literals-literal}
use Rattle.alg_fractions.specs.Fractions.{HasFraction}
use Rattle.alg_fractions.specs.NumeralTree as fraction
use Rattle.alg_arithmetic.proofs.Having.{fits_fraction}
use Rattle.alg_arithmetic.proofs.Trees.{same_signed}
use Rattle.alg_values.specs.Setting.{Classes}
use Rattle.alg_values.specs.Arithmetic.{size_of, whole_number}
use Rattle.alg_values.specs.Comparing.{comparison_in_range, decided, is_same}
use Rattle.alg_values.specs.Numerals.{numeral_tree, signed_tree}
use Rattle.alg_values.specs.declared.value.Value.TheVariants.{Num}
use Rattle.alg_value_laws.specs.Fitting.{Fits, IsRing}
use Rattle.alg_value_laws.proofs.Fractions.{natural_fits, integer_fits}
use Rattle.alg_evaluation.specs.declared.found.Found.{Found}
use Rattle.alg_normnum.specs.Answer.{by_values}
use Rattle.alg_normnum.specs.Sides.{AreNumbers}
use Rattle.alg_normnum.proofs.Relations.{by_decided, same_closes, same_values}

-- the goal stays as the book grows
pub statement_grows : (a b : Book) (g : Stmt) → Grows a b → IsStatementIn a.trees g → statement_of b.trees g ≡ statement_of a.trees g
statement_grows a b g w here =
    let l = tree_of-extends a.trees b.trees g.lhs w.trees here.0 in
    let r = tree_of-extends a.trees b.trees g.rhs w.trees here.1 in
    λ i. record { rel = g.rel; sort = g.sort; lhs = l i; rhs = r i }

module _ (a : Book) (g : Stmt) (x y : Found) (h : AreNumbers a g x y) where
  known : sort_mark a.theory.declarations g.sort ≡ Good
  known = subst (λ s. sort_mark a.theory.declarations s ≡ Good) h.goal.sorted.left_sort (known-from_good a.theory.declarations (tree_of a.trees g.lhs) h.goal.sorted.left)

  pub left_has : HasFraction a g.sort x.value
  left_has = fits_fraction a g.sort known h.goal.lemmas x.value h.left.fits

  pub right_has : HasFraction a g.sort y.value
  right_has = fits_fraction a g.sort known h.goal.lemmas y.value h.right.fits

  -- what the sides are rewritten to

  pub left_turned : Turns a g.sort x.shown (tree_of a.trees g.lhs) (tree_of a.trees x.shown.to)
  left_turned = subst (λ (t : Tree). Turns a g.sort x.shown (tree_of a.trees g.lhs) t) (sym h.left.shown.tree) h.left.shown

  pub right_turned : Turns a g.sort y.shown (tree_of a.trees g.rhs) (tree_of a.trees y.shown.to)
  right_turned = subst (λ (t : Tree). Turns a g.sort y.shown (tree_of a.trees g.rhs) t) (sym h.right.shown.tree) h.right.shown

  pub same_sides : is_same x.value y.value ≡ true → tree_of a.trees x.shown.to ≡ tree_of a.trees y.shown.to
  same_sides e = h.left.shown.tree ∙ ap (numeral_tree g.sort) (same_values x.value y.value e) ∙ sym h.right.shown.tree

  -- a goal between one value, whose relation holds of every tree and itself
  pub evident : is_reflexive g.rel ≡ true → is_same x.value y.value ≡ true → common_end (statement_of a.trees g) (tree_of a.trees x.shown.to) (tree_of a.trees y.shown.to) ≡ Closes
  evident r e = same_closes (statement_of a.trees g) (tree_of a.trees x.shown.to) (tree_of a.trees y.shown.to) r (same_sides e)

  -- a goal of which it isn't known whether it holds
  pub undecided : (has : Classes) → comparison_in_range g.rel x.value y.value ≡ true → decided has g.rel g.sort x.value y.value ≡ None → by_values has (statement_of a.trees g) (numeral_tree g.sort x.value) (numeral_tree g.sort y.value) (Num x.value) (Num y.value) ≡ common_end (statement_of a.trees g) (tree_of a.trees x.shown.to) (tree_of a.trees y.shown.to)
  undecided has i e = by_decided has (statement_of a.trees g) (numeral_tree g.sort x.value) (numeral_tree g.sort y.value) x.value y.value None i e ∙ ap₂ (λ t u. common_end (statement_of a.trees g) t u) (sym h.left.shown.tree) (sym h.right.shown.tree)

  module _ (b : Book) (w : Grows a b) where
    -- a line between the numerals
    pub signed_relate : (line : ℕ) → Concludes b line (related g.rel g.sort (signed_tree g.sort x.value) (signed_tree g.sort y.value)) → Relates b g x.by y.by line
    signed_relate line c = record {
      from_left = tree_of a.trees g.lhs;
      from_right = tree_of a.trees g.rhs;
      into_left = signed_tree g.sort x.value;
      into_right = signed_tree g.sort y.value;
      left = grows-stands a b w g.sort g.lhs (tree_of a.trees g.lhs) (left_stands a g h.goal.here h.goal.sorted);
      right = grows-stands a b w g.sort g.rhs (tree_of a.trees g.rhs) (right_stands a g h.goal.here h.goal.sorted);
      left_turns = grows-turns a b w g.sort x.by (tree_of a.trees g.lhs) (signed_tree g.sort x.value) h.left.signed;
      right_turns = grows-turns a b w g.sort y.by (tree_of a.trees g.rhs) (signed_tree g.sort y.value) h.right.signed;
      relation = c;
    }

    pub fractions_relate : (line : ℕ) → Concludes b line (related g.rel g.sort (fraction.signed_tree g.sort x.value) (fraction.signed_tree g.sort y.value)) → Relates b g x.by y.by line
    fractions_relate line c =
        let same : related g.rel g.sort (fraction.signed_tree g.sort x.value) (fraction.signed_tree g.sort y.value) ≡ related g.rel g.sort (signed_tree g.sort x.value) (signed_tree g.sort y.value) = ap₂ (λ t u. related g.rel g.sort t u) (same_signed g.sort x.value) (same_signed g.sort y.value) in
        signed_relate line (subst (λ (s : Statement). Concludes b line s) same c)

    -- a line for the goal of the grown book
    pub goal_concluded : (c : Book) (n : ℕ) → Concludes c n (statement_of b.trees g) → Concludes c n (statement_of a.trees g)
    goal_concluded c n p = subst (λ (s : Statement). Concludes c n s) (statement_grows a b g w h.goal.here) p

pub ruleset ends = (lines, left_turned, right_turned, left_stands, right_stands)

pub ruleset comparing = (lines, left_has, right_has, fractions_relate, goal_concluded)

-- whole numbers

whole_value : (ds : List Declaration) (s : Sort) (p : Fraction) → is_integral s ≡ true → Fits ds s p → p ≡ whole_number p.numerator
whole_value ds Nat p i h = let n = natural_fits ds p h in n.1 ∙ ap whole_number (sym (ap (λ (q : Fraction). q.numerator) n.1))
whole_value ds Int p i h = integer_fits ds p h
whole_value ds Rat p i h = cc
whole_value ds (Decl k) p i h = cc

signed-whole : (s : Sort) (z : ℤ) → signed_tree s (whole_number z) ≡ numeral_at s z
signed-whole s (pos n) = refl
signed-whole s (negsuc n) = refl

signed_numeral : (ds : List Declaration) (s : Sort) (p : Fraction) → is_integral s ≡ true → Fits ds s p → signed_tree s p ≡ numeral_at s p.numerator
signed_numeral ds s p i h = ap (signed_tree s) (whole_value ds s p i h) ∙ signed-whole s p.numerator

module _ (b : Book) (s : Sort) (known : sort_mark b.theory.declarations s ≡ Good) (library : HoldsLibrary b.theory.lemmas) where
  has_its : (p : Fraction) → Fits b.theory.declarations s p → has_numeral b.theory.declarations s p.numerator ≡ true
  has_its p f = at p.numerator f.sign
    where
      literals : HasLiterals b s
      literals = record { known = known; semiring = f.semiring; library = library }

      at : (z : ℤ) → IsRing b.theory.declarations s ⊎ ((n : ℕ) × (z ≡ pos n)) → has_numeral b.theory.declarations s z ≡ true
      at (pos n) k = literals-literal b s n literals
      at (negsuc n) (inl r) = both_true (has_class-all b.theory.declarations s Ring AddGroup refl r) (literals-literal b s (suc n) literals)
      at (negsuc n) (inr q) = let e : negsuc n ≡ pos q.0 = q.1 in cc

module _ (a : Book) (g : Stmt) (x y : Found) (h : AreNumbers a g x y) (e : g.rel ≡ Dvd) where
  integral : is_integral g.sort ≡ true
  integral = rw e at h.goal.sorted.related

  module _ (m n : ℤ) (i : m ≡ x.value.numerator) (j : n ≡ y.value.numerator) where
    pub may_divide : InRange m → InRange n → divides (size_of x.value) (size_of y.value) ≡ true → Divides a g.sort m n
    may_divide k l d = record {
      known = known a g x y h;
      integral = integral;
      numerals = rw (i, j) (both_true (has_its a g.sort (known a g x y h) h.goal.lemmas x.value h.left.fits) (both_true (has_its a g.sort (known a g x y h) h.goal.lemmas y.value h.right.fits) refl));
      small = both_true (lt-ltb _ _ k) (both_true (lt-ltb _ _ l) refl);
      divides = rw (i, j) d;
    }

    pub numerals_relate : (b : Book) (line : ℕ) (l : Step) → Adds a b line l (related Dvd g.sort (numeral_at g.sort m) (numeral_at g.sort n)) → Relates b g x.by y.by line
    numerals_relate b line l p =
        let left : numeral_at g.sort m ≡ signed_tree g.sort x.value = ap (numeral_at g.sort) i ∙ sym (signed_numeral a.theory.declarations g.sort x.value integral h.left.fits) in
        let right : numeral_at g.sort n ≡ signed_tree g.sort y.value = ap (numeral_at g.sort) j ∙ sym (signed_numeral a.theory.declarations g.sort y.value integral h.right.fits) in
        let same : related Dvd g.sort (numeral_at g.sort m) (numeral_at g.sort n) ≡ related g.rel g.sort (signed_tree g.sort x.value) (signed_tree g.sort y.value) = λ k. related (sym e k) g.sort (left k) (right k) in
        signed_relate a g x y h b (adds-grows a b line l _ p) line (subst (λ (s : Statement). Concludes b line s) same (adds-concludes a b line l _ p))

pub ruleset dividing = (lines, may_divide, numerals_relate, goal_concluded)
