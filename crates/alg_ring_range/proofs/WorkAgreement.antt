-- The work that is found in one pass is what the definitions say.
use Rattle.std.proofs.Common.{◌≡◌, ℕ, ◌+◌, ◌*◌, List, [], ◌∷◌, ◌++◌, refl, ap, ap₂, sym, ◌∙◌, Bool, Option, Some, None, append-nil, nat_lt, arith}
use Rattle.std.specs.Prelude.{◌||◌, ◌^◌, sum, map}
use Rattle.std.specs.List.{list_any}
use Rattle.std.proofs.lemmas.List.Sums.{sum_by-cons}
use Rattle.std.proofs.lemmas.List.Folds.{list_any-append}
use Rattle.alg_terms.specs.declared.symbols.Sym.TheVariants.{Add, Mul, Neg, Sub, Inv, Div, Npow}
use Rattle.alg_terms.specs.Tree.{Tree, Lit, Var, App, Nil, Cons}
use Rattle.alg_sums.specs.Ratio.{Ratio}
use Rattle.alg_sums.specs.Rational.{rational}
use Rattle.alg_expansions.specs.Setting.{Setting}
use Rattle.alg_expansions.specs.Numerals.{numeral}
use Rattle.alg_expansions.specs.Closed.{closed_value}
use Rattle.alg_expansions.specs.Visited.{where_there, visited}
use Rattle.alg_expansions.specs.Cost.{terms, power_cost, inverse_cost, divisor_cost, cost, power_is_large, has_large_step, has_large_steps, cost_too_much}
use Rattle.alg_ring_range.specs.Numbers.{Numbers}
use Rattle.alg_ring_range.specs.Work.{work, sum_work, product_work, one_more, power_work, inverse_work, quotient_work, both_works, works_of, are_too_costly, steps_by, counts_of}
use Rattle.alg_ring_range.specs.declared.work.Work.{Work}
use Rattle.alg_ring_range.proofs.Fractions.{as_fraction}
use Rattle.alg_ring_range.proofs.Agreement.{numbers-agree}

module _ (k : Setting) where
  abbrev work_by : ℕ → Bool → Work
  work_by c b = record { cost = c; is_large = b }

  abbrev exact : Tree → Work
  exact t = work_by (cost rational k t) (has_large_steps rational k t)

  abbrev any_large : List Tree → Bool
  any_large ts = list_any (has_large_step rational k) ts

  large_both : (b : Bool) (us vs : List Tree) → (b || (any_large us || any_large vs)) ≡ (b || any_large (us ++ vs))
  large_both b us vs = ap (λ c. b || c) (sym (list_any-append (has_large_step rational k) us vs))

  power_agrees : (a e : Tree) (o : Option ℕ) → power_work o (steps_by k a o) (exact a) (exact e) ≡ work_by (power_cost rational k a (cost rational k a) (cost rational k e) o) (power_is_large rational k a o || any_large (where_there o (visited rational k a ++ visited rational k e)))
  power_agrees a e None = refl
  power_agrees a e (Some n) = ap (work_by (power_cost rational k a (cost rational k a) (cost rational k e) (Some n))) (large_both (power_is_large rational k a (Some n)) (visited rational k a) (visited rational k e))

  inverse_agrees : (b : Tree) (o : Option Ratio) → inverse_work (as_fraction o) (exact b) ≡ work_by (inverse_cost (cost rational k b) o) (any_large (where_there o (visited rational k b)))
  inverse_agrees b None = refl
  inverse_agrees b (Some c) = refl

  quotient_agrees : (a b : Tree) (o : Option Ratio) → quotient_work (as_fraction o) (terms rational k a) (exact a) (exact b) ≡ work_by (cost rational k a + terms rational k a + divisor_cost (cost rational k b) o) (any_large (visited rational k a ++ where_there o (visited rational k b)))
  quotient_agrees a b None = ap₂ work_by (let e : cost rational k a + terms rational k a ≡ cost rational k a + terms rational k a + 0 = omega arith in e) (ap any_large (sym (append-nil (visited rational k a))))
  quotient_agrees a b (Some c) = ap (work_by (cost rational k a + terms rational k a + cost rational k b)) (sym (list_any-append (has_large_step rational k) (visited rational k a) (visited rational k b)))

  pub work-agrees : (t : Tree) → work (counts_of k) k t ≡ exact t
  work-agrees (Lit s n) = refl
  work-agrees (Var d s) = refl
  work-agrees (App Add s (Cons a (Cons b Nil))) =
      ap₂ (sum_work (terms rational k a) (terms rational k b)) (work-agrees a) (work-agrees b)
      ∙ ap (work_by (cost rational k a + cost rational k b + 1)) (large_both (nat_lt 4096 (terms rational k a + terms rational k b)) (visited rational k a) (visited rational k b))
  work-agrees (App Sub s (Cons a (Cons b Nil))) =
      ap₂ (sum_work (terms rational k a) (terms rational k b)) (work-agrees a) (work-agrees b)
      ∙ ap (work_by (cost rational k a + cost rational k b + 1)) (large_both (nat_lt 4096 (terms rational k a + terms rational k b)) (visited rational k a) (visited rational k b))
  work-agrees (App Mul s (Cons a (Cons b Nil))) =
      ap₂ (product_work (terms rational k a) (terms rational k b)) (work-agrees a) (work-agrees b)
      ∙ ap (work_by (cost rational k a + cost rational k b + terms rational k a * terms rational k b)) (large_both (nat_lt 4096 (terms rational k a * terms rational k b)) (visited rational k a) (visited rational k b))
  work-agrees (App Neg s (Cons a Nil)) = ap one_more (work-agrees a)
  work-agrees (App Npow s (Cons a (Cons e Nil))) =
      ap (λ (n : Numbers). power_work n.numeral (steps_by k a (numeral e)) (work (counts_of k) k a) (work (counts_of k) k e)) (numbers-agree k e)
      ∙ ap₂ (power_work (numeral e) (steps_by k a (numeral e))) (work-agrees a) (work-agrees e)
      ∙ power_agrees a e (numeral e)
  work-agrees (App Inv s (Cons b Nil)) =
      ap (λ (n : Numbers). inverse_work n.fraction (work (counts_of k) k b)) (numbers-agree k b)
      ∙ ap (inverse_work (as_fraction (closed_value rational k b))) (work-agrees b)
      ∙ inverse_agrees b (closed_value rational k b)
  work-agrees (App Div s (Cons a (Cons b Nil))) =
      ap (λ (n : Numbers). quotient_work n.fraction (terms rational k a) (work (counts_of k) k a) (work (counts_of k) k b)) (numbers-agree k b)
      ∙ ap₂ (quotient_work (as_fraction (closed_value rational k b)) (terms rational k a)) (work-agrees a) (work-agrees b)
      ∙ quotient_agrees a b (closed_value rational k b)
  work-agrees (App f s ts) = refl

  works-agree : (ts : List Tree) → works_of (counts_of k) k ts ≡ work_by (sum (map (cost rational k) ts)) (list_any (has_large_steps rational k) ts)
  works-agree [] = refl
  works-agree (t ∷ ts) =
      ap₂ both_works (work-agrees t) (works-agree ts)
      ∙ ap (λ c. work_by c (has_large_steps rational k t || list_any (has_large_steps rational k) ts)) (sym (sum_by-cons (λ n. n) (cost rational k t) (map (cost rational k) ts)))

  pub costly-agree : (ts : List Tree) → are_too_costly (counts_of k) k ts ≡ (cost_too_much rational k ts || list_any (has_large_steps rational k) ts)
  costly-agree ts = ap (λ (w : Work). nat_lt (2 ^ 18) w.cost || w.is_large) (works-agree ts)
