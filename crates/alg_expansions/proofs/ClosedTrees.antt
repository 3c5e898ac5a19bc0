-- A closed tree that is well sorted is one of a field of characteristic zero.
use Rattle.std.proofs.Common.{◌≡◌, ℕ, Bool, true, false, cond, refl, subst, List, Option, Some, None}
use Rattle.std.specs.Prelude.{option_map}
use Rattle.alg_terms.specs.declared.sorts.Sort.{Sort}
use Rattle.alg_terms.specs.declared.symbols.Sym.TheVariants.{Add, Mul, Neg, Sub, Inv, Div, Npow}
use Rattle.alg_terms.specs.Tree.{Tree, Lit, Var, App, Nil, Cons, sort_of_tree}
use Rattle.alg_law.specs.Declarations.{Declaration}
use Rattle.alg_law.specs.WellSorted.{IsWellSorted}
use Rattle.alg_sums.specs.Coefficients.{Coefficients}
use Rattle.alg_expansions.specs.Setting.{Setting, setting_of}
use Rattle.alg_expansions.specs.Numerals.{numeral}
use Rattle.alg_expansions.specs.Closed.{both, closed_power, closed_value}
use Rattle.alg_expansions.proofs.WellSortedTrees.{one_part, base_part, two_parts}

-- there is something
abbrev IsThere : {C : Type 0} → Option C → Type 0
IsThere {C} o = (c : C) × (o ≡ Some c)

both_first : {C : Type 0} (f : C → C → C) (o p : Option C) → IsThere (both f o p) → IsThere o
both_first f (Some a) p h = (a, refl)
both_first f None p h = absurd (let e = h.1 in cc)

mapped_first : {C : Type 0} (f : C → C) (o : Option C) → IsThere (option_map f o) → IsThere o
mapped_first f (Some a) h = (a, refl)
mapped_first f None h = absurd (let e = h.1 in cc)

raised_first : {C : Type 0} (r : Coefficients C) (o : Option C) (n : Option ℕ) → IsThere (closed_power r o n) → IsThere o
raised_first r (Some a) n h = (a, refl)
raised_first r None n h = absurd (let e = h.1 in cc)

literal_exact : {C : Type 0} (b : Bool) (x : C) → IsThere (cond b (Some x) None) → b ≡ true
literal_exact true x h = refl
literal_exact false x h = absurd (let e = h.1 in cc)

module _ {C : Type 0} (r : Coefficients C) (ds : List Declaration) where
  abbrev k : Setting
  k = setting_of ds

  exact_at : (s t : Sort) → t ≡ s → k.is_exact t ≡ true → k.is_exact s ≡ true
  exact_at s t e h = subst (λ u. k.is_exact u ≡ true) e h

  closed_there : (t : Tree) → IsWellSorted ds t → IsThere (closed_value r k t) → k.is_exact (sort_of_tree t) ≡ true
  closed_there (Lit s n) w h = literal_exact (k.is_exact s) (r.number n) h
  closed_there (Var d s) w h = absurd (let e = h.1 in cc)
  closed_there (App Add s (Cons a (Cons b Nil))) w h =
      let g = two_parts ds Add s a b refl w in
      exact_at s (sort_of_tree a) g.left (closed_there a g.left_good (both_first r.plus (closed_value r k a) (closed_value r k b) h))
  closed_there (App Sub s (Cons a (Cons b Nil))) w h =
      let g = two_parts ds Sub s a b refl w in
      exact_at s (sort_of_tree a) g.left (closed_there a g.left_good (both_first (λ x y. r.plus x (r.minus y)) (closed_value r k a) (closed_value r k b) h))
  closed_there (App Mul s (Cons a (Cons b Nil))) w h =
      let g = two_parts ds Mul s a b refl w in
      exact_at s (sort_of_tree a) g.left (closed_there a g.left_good (both_first r.times (closed_value r k a) (closed_value r k b) h))
  closed_there (App Div s (Cons a (Cons b Nil))) w h =
      let g = two_parts ds Div s a b refl w in
      exact_at s (sort_of_tree a) g.left (closed_there a g.left_good (both_first (λ x y. r.times x (r.inverse y)) (closed_value r k a) (closed_value r k b) h))
  closed_there (App Npow s (Cons a (Cons e Nil))) w h =
      let g = base_part ds s a e w in
      exact_at s (sort_of_tree a) g.sort (closed_there a g.good (raised_first r (closed_value r k a) (numeral e) h))
  closed_there (App Neg s (Cons a Nil)) w h =
      let g = one_part ds Neg s a refl w in
      exact_at s (sort_of_tree a) g.sort (closed_there a g.good (mapped_first r.minus (closed_value r k a) h))
  closed_there (App Inv s (Cons a Nil)) w h =
      let g = one_part ds Inv s a refl w in
      exact_at s (sort_of_tree a) g.sort (closed_there a g.good (mapped_first r.inverse (closed_value r k a) h))
  closed_there (App f s ts) w h = absurd (let e = h.1 in cc)

  pub closed_exact : (t : Tree) (c : C) → IsWellSorted ds t → closed_value r k t ≡ Some c → k.is_exact (sort_of_tree t) ≡ true
  closed_exact t c w e = closed_there t w (c, e)
