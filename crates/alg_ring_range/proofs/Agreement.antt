-- The numbers that are found in one pass are those of the definitions.
use Rattle.std.proofs.Common.{◌≡◌, ℕ, ◌+◌, ◌*◌, List, [], ◌∷◌, ◌++◌, length, get_or, All, refl, ap, ap₂, sym, ◌∙◌, arith, Bool, true, false, Option, Some, None}
use Rattle.std.specs.Prelude.{◌||◌, option_map}
use Rattle.std.specs.List.{list_any}
use Rattle.std.specs.Option.{is_none}
use Rattle.std.proofs.lemmas.List.Folds.{list_any-append}
use Rattle.std.proofs.lemmas.List.Elements.{All-head, All-tail}
use Rattle.alg_terms.specs.declared.symbols.Sym.TheVariants.{Add, Mul, Neg, Sub, Inv, Div, Npow}
use Rattle.alg_terms.specs.Tree.{Tree, Lit, Var, App, Nil, Cons}
use Rattle.alg_num.specs.Fraction.{Fraction}
use Rattle.alg_expr.specs.declared.ids.ExprId.{ExprId}
use Rattle.alg_expr.specs.Ids.{tree_of, trees_at, IsIn}
use Rattle.alg_sums.specs.Ratio.{Ratio, fraction}
use Rattle.alg_sums.specs.Rational.{rational}
use Rattle.alg_expansions.specs.Setting.{Setting}
use Rattle.alg_expansions.specs.Numerals.{raised_numeral, numeral}
use Rattle.alg_expansions.specs.Closed.{both, closed_power, closed_value}
use Rattle.alg_expansions.specs.Weight.{raised_by, bottom_of, top_of, times_degree, inverse_degree, denominator, weight, degree}
use Rattle.alg_expansions.specs.Visited.{where_there, visited}
use Rattle.alg_expansions.specs.Range as range
use Rattle.alg_expansions.specs.Range.{has_past, is_out_of_range}
use Rattle.alg_ring_range.specs.Sizes.{inverse_sizes, product_sizes}
use Rattle.alg_ring_range.specs.Numbers.{Numbers, sum, difference, product, negation, over_one, over_two, power_by, inverse_by, quotient_by, numbers}
use Rattle.alg_ring_range.specs.Found.{IsFound, AreSizes, AreFound, absent, is_lost}
use Rattle.alg_ring_range.specs.declared.sizes.Sizes.{Sizes}
use Rattle.alg_ring_range.specs.declared.rows.Found.{Found}
use Rattle.alg_ring_range.proofs.Fractions.{as_fraction, as-literal, as-sum, as-difference, as-product, as-quotient, as-no_quotient, as-negation, as-inverse, as-power, as-no_power, bottom-inverse, top-inverse}

or_none : (b : Bool) → (b || false) ≡ b
or_none true = refl
or_none false = refl

-- numbers, one by one
abbrev numbers_by : Option ℕ → Option Fraction → ℕ → ℕ → ℕ → Bool → Numbers
numbers_by n q d w g o = record { numeral = n; fraction = q; sizes = record { denominator = d; weight = w; degree = g }; is_out = o }

module _ (k : Setting) where
  -- those of the definitions
  abbrev pub numbers_of : Tree → Numbers
  numbers_of t = numbers_by (numeral t) (as_fraction (closed_value rational k t)) (denominator rational k t) (weight rational k t) (degree rational k t) (is_out_of_range rational k t)

  abbrev any_past : List Tree → Bool
  any_past ts = list_any (has_past rational k) ts

  past_both : (b : Bool) (us vs : List Tree) → (b || (any_past us || any_past vs)) ≡ (b || any_past (us ++ vs))
  past_both b us vs = ap (λ c. b || c) (sym (list_any-append (has_past rational k) us vs))

  with_fraction : (n : Option ℕ) (q p : Option Fraction) (d w g : ℕ) (o u : Bool) → q ≡ p → o ≡ u → numbers_by n q d w g o ≡ numbers_by n p d w g u
  with_fraction n q p d w g o u e f = ap₂ (λ x y. numbers_by n x d w g y) e f

  -- a power, by the number of its exponent
  power_agrees : (a e : Tree) (o : Option ℕ) → power_by o (numbers_of a) (numbers_of e) ≡ numbers_by (raised_numeral (numeral a) o) (as_fraction (closed_power rational (closed_value rational k a) o)) (raised_by (denominator rational k a) o) (raised_by (weight rational k a) o) (times_degree (degree rational k a) o) (range.is_past (raised_by (denominator rational k a) o) (raised_by (weight rational k a) o) (times_degree (degree rational k a) o) || any_past (where_there o (visited rational k a ++ visited rational k e)))
  power_agrees a e None = ap (λ q. numbers_by None q 1 1 1 false) (as-no_power (closed_value rational k a))
  power_agrees a e (Some n) =
      with_fraction (raised_numeral (numeral a) (Some n)) _ _ (raised_by (denominator rational k a) (Some n)) (raised_by (weight rational k a) (Some n)) (times_degree (degree rational k a) (Some n)) _ _
      (as-power (closed_value rational k a) n)
      (past_both (range.is_past (raised_by (denominator rational k a) (Some n)) (raised_by (weight rational k a) (Some n)) (times_degree (degree rational k a) (Some n))) (visited rational k a) (visited rational k e))

  -- sizes of an inverse
  inverse_is : (c : Ratio) → inverse_sizes (fraction c) ≡ record { denominator = bottom_of rational (Some c); weight = top_of rational (Some c); degree = 0 }
  inverse_is c = ap₂ (λ d w. let z : Sizes = record { denominator = d; weight = w; degree = 0 } in z) (bottom-inverse c) (top-inverse c)

  inverse_agrees : (b : Tree) (o : Option Ratio) → inverse_by (as_fraction o) (numbers_of b) ≡ numbers_by None (as_fraction (option_map rational.inverse o)) (bottom_of rational o) (top_of rational o) (inverse_degree o) (range.is_past (bottom_of rational o) (top_of rational o) (inverse_degree o) || any_past (where_there o (visited rational k b)))
  inverse_agrees b None = refl
  inverse_agrees b (Some c) = ap₂ (λ q z. over_one (Some q) z (numbers_of b)) (as-inverse c) (inverse_is c)

  quotient_agrees : (a b : Tree) (o : Option Ratio) → quotient_by (as_fraction o) (numbers_of a) (numbers_of b) ≡ numbers_by None (as_fraction (both (λ x y. rational.times x (rational.inverse y)) (closed_value rational k a) o)) (denominator rational k a * bottom_of rational o) (weight rational k a * top_of rational o) (degree rational k a + inverse_degree o) (range.is_past (denominator rational k a * bottom_of rational o) (weight rational k a * top_of rational o) (degree rational k a + inverse_degree o) || any_past (visited rational k a ++ where_there o (visited rational k b)))
  quotient_agrees a b None =
      let d = denominator rational k a in
      let w = weight rational k a in
      let g = degree rational k a in
      let e : d ≡ d * 1 = omega arith in
      let f : w ≡ w * 1 = omega arith in
      let v : any_past (visited rational k a) ≡ any_past (visited rational k a ++ []) = sym (list_any-append (has_past rational k) (visited rational k a) [] ∙ or_none (any_past (visited rational k a))) in
      ap₂ (λ x y. numbers_by None None x y (g + 1) (range.is_past x y (g + 1) || any_past (visited rational k a))) e f
      ∙ ap₂ (λ q u. numbers_by None q (d * 1) (w * 1) (g + 1) (range.is_past (d * 1) (w * 1) (g + 1) || u)) (as-no_quotient (closed_value rational k a)) v
  quotient_agrees a b (Some c) =
      ap₂ (λ q z. over_two None q (product_sizes (numbers_of a).sizes z) (numbers_of a) (numbers_of b)) (as-quotient (closed_value rational k a) c) (inverse_is c)
      ∙ ap (λ u. numbers_by None (as_fraction (both (λ x y. rational.times x (rational.inverse y)) (closed_value rational k a) (Some c))) (denominator rational k a * bottom_of rational (Some c)) (weight rational k a * top_of rational (Some c)) (degree rational k a + 0) u)
      (past_both (range.is_past (denominator rational k a * bottom_of rational (Some c)) (weight rational k a * top_of rational (Some c)) (degree rational k a + 0)) (visited rational k a) (visited rational k b))

  -- what is found of each tree
  pub numbers-agree : (t : Tree) → numbers k t ≡ numbers_of t
  numbers-agree (Lit s n) = ap₂ (λ q o. numbers_by (Some n) q 1 n 0 o) (as-literal (k.is_exact s) n) (sym (or_none (range.is_past 1 n 0)))
  numbers-agree (Var d s) = refl
  numbers-agree (App Add s (Cons a (Cons b Nil))) =
      let t = App Add s (Cons a (Cons b Nil)) in
      ap₂ sum (numbers-agree a) (numbers-agree b)
      ∙ with_fraction (numeral t) _ _ (denominator rational k t) (weight rational k t) (degree rational k t) _ _ (as-sum (closed_value rational k a) (closed_value rational k b)) (past_both (has_past rational k t) (visited rational k a) (visited rational k b))
  numbers-agree (App Sub s (Cons a (Cons b Nil))) =
      let t = App Sub s (Cons a (Cons b Nil)) in
      ap₂ difference (numbers-agree a) (numbers-agree b)
      ∙ with_fraction None _ _ (denominator rational k t) (weight rational k t) (degree rational k t) _ _ (as-difference (closed_value rational k a) (closed_value rational k b)) (past_both (has_past rational k t) (visited rational k a) (visited rational k b))
  numbers-agree (App Mul s (Cons a (Cons b Nil))) =
      let t = App Mul s (Cons a (Cons b Nil)) in
      ap₂ product (numbers-agree a) (numbers-agree b)
      ∙ with_fraction (numeral t) _ _ (denominator rational k t) (weight rational k t) (degree rational k t) _ _ (as-product (closed_value rational k a) (closed_value rational k b)) (past_both (has_past rational k t) (visited rational k a) (visited rational k b))
  numbers-agree (App Neg s (Cons a Nil)) =
      let t = App Neg s (Cons a Nil) in
      ap negation (numbers-agree a)
      ∙ with_fraction None _ _ (denominator rational k t) (weight rational k t) (degree rational k t) _ _ (as-negation (closed_value rational k a)) refl
  numbers-agree (App Npow s (Cons a (Cons e Nil))) =
      ap₂ (λ x y. power_by y.numeral x y) (numbers-agree a) (numbers-agree e) ∙ power_agrees a e (numeral e)
  numbers-agree (App Inv s (Cons b Nil)) =
      ap (λ x. inverse_by x.fraction x) (numbers-agree b) ∙ inverse_agrees b (closed_value rational k b)
  numbers-agree (App Div s (Cons a (Cons b Nil))) =
      ap₂ (λ x y. quotient_by y.fraction x y) (numbers-agree a) (numbers-agree b) ∙ quotient_agrees a b (closed_value rational k b)
  numbers-agree (App f s ts) = refl

  -- a tree is lost exactly where it is out of range
  lost_by : (z : Option Sizes) (x : Numbers) → AreSizes z x → is_none z ≡ x.is_out
  lost_by (Some z) x h = sym h.0
  lost_by None x h = sym h

  pub lost_is_out : (trees : List Tree) (found : List Found) (roots : List ExprId) → All (λ e. IsFound (get_or found e.index absent) (numbers k (tree_of trees e))) roots → list_any (is_lost found) roots ≡ range.are_out_of_range rational k (trees_at trees roots)
  lost_is_out trees found [] h = refl
  lost_is_out trees found (e ∷ roots) h =
      let P : ExprId → Type 0 = λ e. IsFound (get_or found e.index absent) (numbers k (tree_of trees e)) in
      let f : IsFound (get_or found e.index absent) (numbers k (tree_of trees e)) = All-head P e roots h in
      ap₂ (λ b c. b || c)
      (lost_by (get_or found e.index absent).sizes (numbers k (tree_of trees e)) f.sizes ∙ ap (λ (x : Numbers). x.is_out) (numbers-agree (tree_of trees e)))
      (lost_is_out trees found roots (All-tail P e roots h))

-- what is found of trees that are wanted
pub all_found : (k : Setting) (trees : List Tree) (wanted flags : List Bool) (items found : List Found) (roots : List ExprId) → wanted ≡ flags → items ≡ found → AreFound k trees wanted found → length found ≡ length trees → All (IsIn trees) roots → All (λ e. get_or flags e.index false ≡ true) roots → All (λ e. IsFound (get_or items e.index absent) (numbers k (tree_of trees e))) roots
all_found k trees wanted flags items found roots e f h all here want j d l = rw f (h.each (get_or roots j d).index (omega (arith, all, here j d l)) (rw e (want j d l)))
