-- No law is false: what is derivable over an integer base holds at the integers.
use Rattle.std.specs.Prelude.{◌≡◌, ◌≢◌, ℕ, suc, ◌+◌, Bool, true, false, ◌&&◌, ◌||◌, if◌then◌else◌, nat_eq, nat_lt, List, [], ◌∷◌, ◌++◌, map, get_or, Option, Some, None, Contains, All, ⊤, ℤ, pos, negsuc, refl}
use Rattle.std.proofs.Common.{ap, ap₂, sym, ◌∙◌, subst, arith}
use Rattle.std.proofs.lemmas.Bool.{and_parts}
use Rattle.std.proofs.lemmas.Bool.Decides.{nat_tests}
use Rattle.std.proofs.lemmas.Int.{ints}
use Rattle.std.proofs.lemmas.List.Elements.{All-nil, All-cons, All-head, All-tail, All-append, All-contains, All-from_recursion}
use Rattle.alg_terms.specs.declared.sorts.Sort.{Sort}
use Rattle.alg_terms.specs.declared.sorts.Sort.TheVariants.{Nat, Int, Rat}
use Rattle.alg_terms.specs.Tree.{Tree, Lit, Trees, Nil, Cons, Statement, sort_of_tree}
use Rattle.alg_law.specs.declared.patterns.PatSort.{PatSort}
use Rattle.alg_law.specs.declared.patterns.PatSort.TheVariants as of
use Rattle.alg_law.specs.Declarations.{Declaration, Carrier, Instance, Variable, Function, Hypothesis, hypotheses}
use Rattle.alg_law.specs.Derivations.{Derivable, reflexive, symmetric, transitive, congruent, substitution, row, literal_law, hypothesis, rest, AllDerivable, none, more, LiteralLaw, next_literal, distinct, smul_literal, zsmul_literal, zpow_literal, natural_value, integer_value, natural_divides, integer_divides, equations, count_of, numeral}
use Rattle.alg_law.specs.Following.{AllMayFollow, IsWellFormed}
use Rattle.alg_law.specs.IntegerBases.{IsIntegerBase}
use Rattle.alg_law.proofs.IntegerTrees.{AllBesideRationals, arguments-beside, no_group_or_field}
use Rattle.alg_law.specs.IntegerValues.{applied, value_of, values_of}
use Rattle.alg_law.specs.Laws.{law_groups, rows_in, law_table}
use Rattle.alg_law.proofs.LeanValues.{natural_value-holds, integer_value-holds, integer_divides-holds}
use Rattle.alg_law.specs.Patterns.{Pat, Letter, PLit, PApp, PatStatement, sort_for, letter_sort, index_in, fill, fill_statement}
use Rattle.alg_law.specs.Rows.{Row, letters_of, MayFill}
use Rattle.alg_law.specs.AdditiveLaws.{sum_laws, multiple_laws}
use Rattle.alg_law.specs.MultiplicativeLaws.{product_laws, power_laws}
use Rattle.alg_law.specs.RingLaws.{semiring_laws, field_laws, unequal_laws}
use Rattle.alg_law.specs.OrderLaws.{order_laws, min_max_laws}
use Rattle.alg_law.specs.OrderedRingLaws.{ordered_semiring_laws, ordered_ring_laws}
use Rattle.alg_law.proofs.TrueAdditiveLaws.{sum_laws-true, multiple_laws-true}
use Rattle.alg_law.proofs.TrueMultiplicativeLaws.{product_laws-true, power_laws-true}
use Rattle.alg_law.proofs.TrueRingLaws.{semiring_laws-true, field_laws-true, unequal_laws-true}
use Rattle.alg_law.proofs.TrueOrderLaws.{order_laws-true, min_max_laws-true}
use Rattle.alg_law.proofs.TrueOrderedRingLaws.{ordered_semiring_laws-true, ordered_ring_laws-true}
use Rattle.alg_law.specs.TrueRows.{IsTrueRow}
use Rattle.alg_law.specs.Truth.{RelHolds, Holds, AllHold, HoldsAtIntegers}
use Rattle.alg_law.specs.Valuations.{Valuation, IsValuation}

true_groups : (groups : List (List Row)) → All (All IsTrueRow) groups → All IsTrueRow (rows_in groups)
true_groups [] h = All-nil IsTrueRow
true_groups (g ∷ gs) h = All-append IsTrueRow g (rows_in gs) (All-head (All IsTrueRow) g gs h) (true_groups gs (All-tail (All IsTrueRow) g gs h))

-- each law of each group holds at the integers
pub law_groups-true : All (All IsTrueRow) law_groups
unfolding law_groups
law_groups-true =
    All-from_recursion (All IsTrueRow) law_groups
    (sum_laws-true, (multiple_laws-true, (product_laws-true, (power_laws-true, (semiring_laws-true, (field_laws-true, (unequal_laws-true, (order_laws-true, (min_max_laws-true, (ordered_semiring_laws-true, (ordered_ring_laws-true, tt)))))))))))

pub law_table-true : All IsTrueRow law_table
unfolding law_table
law_table-true = true_groups law_groups law_groups-true

abbrev is_the_sort : PatSort → Bool
is_the_sort of.S = true
is_the_sort of.Nat = false
is_the_sort of.Int = false

abbrev is_there : List ℕ → ℕ → Bool
is_there [] k = false
is_there (l ∷ ls) k = nat_eq l k || is_there ls k

-- the pattern is of the instance's sort
abbrev is_of_the_sort : List ℕ → Pat → Bool
is_of_the_sort ls (Letter k) = nat_lt k 4 && is_there ls k
is_of_the_sort ls (PLit p n) = is_the_sort p
is_of_the_sort ls (PApp f p ps) = is_the_sort p

abbrev are_all_of_it : List PatStatement → Bool
are_all_of_it [] = true
are_all_of_it (p ∷ ps) = is_the_sort p.sort && are_all_of_it ps

-- both sides of the conclusion are of the instance's sort, and each statement speaks of that
abbrev is_even : Row → Bool
is_even r = (is_the_sort r.conclusion.sort && is_of_the_sort (letters_of r) r.conclusion.lhs) && (is_of_the_sort (letters_of r) r.conclusion.rhs && are_all_of_it r.premises)

abbrev are_even : List Row → Bool
are_even [] = true
are_even (r ∷ rs) = is_even r && are_even rs

table-even : are_even law_table ≡ true
unfolding law_table law_groups sum_laws multiple_laws product_laws power_laws semiring_laws field_laws unequal_laws order_laws min_max_laws ordered_semiring_laws ordered_ring_laws
table-even = refl

even_all : (rs : List Row) → are_even rs ≡ true → All (λ r. is_even r ≡ true) rs
even_all [] e = All-nil (λ r. is_even r ≡ true)
even_all (r ∷ rs) e = let h = and_parts (is_even r) (are_even rs) e in All-cons (λ r. is_even r ≡ true) r rs h.0 (even_all rs h.1)

row-even : (r : Row) → Contains law_table r → is_even r ≡ true
row-even r i = All-contains (λ r. is_even r ≡ true) law_table r (even_all law_table table-even) i

for_the_sort : (s : Sort) (p : PatSort) → is_the_sort p ≡ true → sort_for s p ≡ s
for_the_sort s of.S e = refl
for_the_sort s of.Nat e = cc
for_the_sort s of.Int e = cc

same_number : (m n : ℕ) → nat_eq m n ≡ true → m ≡ n
same_number m n e = grind (arith, nat_tests)

letter-sort : (ls : List ℕ) (s : Sort) (xs : List Tree) (k : ℕ) → map sort_of_tree xs ≡ map (letter_sort s) ls → is_there ls k ≡ true → sort_of_tree (get_or xs (index_in ls k) (Lit Nat 0)) ≡ letter_sort s k
letter-sort [] s xs k e h = cc
letter-sort (l ∷ ls) s [] k e h = cc
letter-sort (l ∷ ls) s (x ∷ xs) k e h = by (letter-sort ls s xs k cc) (nat_eq l k) refl h
  where
    here : sort_of_tree x ≡ letter_sort s l
    here = cc

    by : (is_there ls k ≡ true → sort_of_tree (get_or xs (index_in ls k) (Lit Nat 0)) ≡ letter_sort s k) → (t : Bool) → nat_eq l k ≡ t → (t || is_there ls k) ≡ true → sort_of_tree (get_or (x ∷ xs) (if t then 0 else suc (index_in ls k)) (Lit Nat 0)) ≡ letter_sort s k
    by later true p q = here ∙ ap (letter_sort s) (same_number l k p)
    by later false p q = later q

low_letter : (s : Sort) (k : ℕ) → nat_lt k 4 ≡ true → letter_sort s k ≡ s
low_letter s k e = rw e refl

fill-sort : (ls : List ℕ) (s : Sort) (xs : List Tree) (p : Pat) → map sort_of_tree xs ≡ map (letter_sort s) ls → is_of_the_sort ls p ≡ true → sort_of_tree (fill ls s xs p) ≡ s
fill-sort ls s xs (Letter k) e h = let i = and_parts (nat_lt k 4) (is_there ls k) h in letter-sort ls s xs k e i.1 ∙ low_letter s k i.0
fill-sort ls s xs (PLit p n) e h = for_the_sort s p h
fill-sort ls s xs (PApp f p ps) e h = for_the_sort s p h

-- the hypotheses of a base are of their sorts
abbrev IsOfItsSort : Statement → Type 0
IsOfItsSort s = (sort_of_tree s.lhs ≡ s.sort) × (sort_of_tree s.rhs ≡ s.sort)

hypotheses-sorted : (ds es : List Declaration) → AllMayFollow ds es → All IsOfItsSort (hypotheses es)
hypotheses-sorted ds [] h = All-nil IsOfItsSort
hypotheses-sorted ds (Carrier n ∷ es) h = hypotheses-sorted (ds ++ Carrier n ∷ []) es h.1
hypotheses-sorted ds (Instance k c ∷ es) h = hypotheses-sorted (ds ++ Instance k c ∷ []) es h.1
hypotheses-sorted ds (Variable n s ∷ es) h = hypotheses-sorted (ds ++ Variable n s ∷ []) es h.1
hypotheses-sorted ds (Function n ss s ∷ es) h = hypotheses-sorted (ds ++ Function n ss s ∷ []) es h.1
hypotheses-sorted ds (Hypothesis n g ∷ es) h = All-cons IsOfItsSort g (hypotheses es) (h.0.left_sort, h.0.right_sort) (hypotheses-sorted (ds ++ Hypothesis n g ∷ []) es h.1)

numeral-sort : (z : ℤ) → sort_of_tree (numeral z) ≡ Int
numeral-sort (pos n) = refl
numeral-sort (negsuc n) = refl

module _ (ds : List Declaration) (base : IsIntegerBase ds) (v : Valuation) (val : IsValuation ds v) where
  -- both sides are of the statement's sort, and it holds unless that is ℚ
  pub record IsSound (s : Statement) : Type 0 where
    pub left : sort_of_tree s.lhs ≡ s.sort
    pub right : sort_of_tree s.rhs ≡ s.sort
    pub holds : s.sort ≢ Rat → Holds v s

  abbrev AllSound : List Statement → Type 0
  AllSound [] = ⊤
  AllSound (s ∷ ss) = IsSound s × AllSound ss

  literal-sound : (s : Statement) → LiteralLaw ds s → IsSound s
  literal-sound _ (next_literal s n p q) = record { left = refl; right = refl; holds = λ b. one_more n }
    where
      one_more : (n : ℕ) → pos (suc n) ≡ pos (n + 1)
      one_more n = ap pos (omega arith)
  literal-sound _ (distinct s m n p q h) = record { left = refl; right = refl; holds = λ b e. h (omega (arith, ints, e)) }
  literal-sound _ (smul_literal x n p q) = record { left = refl; right = refl; holds = λ b. refl }
  literal-sound _ (zsmul_literal x n p q) = record { left = refl; right = refl; holds = λ b. refl }
  literal-sound _ (zpow_literal x n p q) = record { left = refl; right = refl; holds = λ b. absurd (no_group_or_field ds (sort_of_tree x) base b q) }
  literal-sound _ (natural_value f xs r h) = record { left = refl; right = refl; holds = λ b. natural_value-holds v f xs r h }
  literal-sound _ (integer_value f xs r h) = record { left = refl; right = numeral-sort r; holds = λ b. integer_value-holds v f xs r h }
  literal-sound _ (natural_divides x y h) = record { left = refl; right = refl; holds = λ b. h }
  literal-sound _ (integer_divides x y h) = record { left = numeral-sort x; right = numeral-sort y; holds = λ b. integer_divides-holds v x y h }

  -- equal parts have equal values
  values-same : (xs ys : Trees) → count_of xs ≡ count_of ys → AllBesideRationals xs → AllSound (equations xs ys) → values_of v xs ≡ values_of v ys
  values-same Nil Nil e b h = refl
  values-same Nil (Cons y ys) e b h = absurd (omega (arith, e))
  values-same (Cons x xs) Nil e b h = absurd (omega (arith, e))
  values-same (Cons x xs) (Cons y ys) e b h = ap₂ (λ z zs. z ∷ zs) (h.0.holds b.0) (values-same xs ys (omega (arith, e)) b.1 h.1)

  premises-hold : (ls : List ℕ) (s : Sort) (with : List Tree) (ps : List PatStatement) → are_all_of_it ps ≡ true → s ≢ Rat → AllSound (map (fill_statement ls s with) ps) → AllHold v (map (fill_statement ls s with) ps)
  premises-hold ls s with [] e b h = tt
  premises-hold ls s with (p ∷ ps) e b h =
      let i = and_parts (is_the_sort p.sort) (are_all_of_it ps) e in
      let here : sort_for s p.sort ≢ Rat = λ q. b (sym (for_the_sort s p.sort i.0) ∙ q) in
      (h.0.holds here, premises-hold ls s with ps i.1 b h.1)

  row-sound : (r : Row) (s : Sort) (with : List Tree) → Contains law_table r → MayFill ds r s with → AllSound (map (fill_statement (letters_of r) s with) r.premises) → IsSound (fill_statement (letters_of r) s with r.conclusion)
  row-sound r s with i fits h =
      let e = row-even r i in
      let f = and_parts (is_the_sort r.conclusion.sort && is_of_the_sort (letters_of r) r.conclusion.lhs) (is_of_the_sort (letters_of r) r.conclusion.rhs && are_all_of_it r.premises) e in
      let g = and_parts (is_the_sort r.conclusion.sort) (is_of_the_sort (letters_of r) r.conclusion.lhs) f.0 in
      let k = and_parts (is_of_the_sort (letters_of r) r.conclusion.rhs) (are_all_of_it r.premises) f.1 in
      let same : sort_for s r.conclusion.sort ≡ s = for_the_sort s r.conclusion.sort g.0 in
      let true_row : IsTrueRow r = All-contains IsTrueRow law_table r law_table-true i in
      record {
        left = fill-sort (letters_of r) s with r.conclusion.lhs fits.sorts g.1 ∙ sym same;
        right = fill-sort (letters_of r) s with r.conclusion.rhs fits.sorts k.0 ∙ sym same;
        holds = λ b.
            let beside : s ≢ Rat = λ q. b (same ∙ q) in
            true_row ds v s with base val fits beside (premises-hold (letters_of r) s with r.premises k.1 beside h);
      }

  module _ (given : Option Statement) (known : (h : Statement) → Contains (hypotheses ds) h → IsSound h) (supposed : (g : Statement) → given ≡ Some g → IsSound g) where
    mutual
      -- what is derivable from what is sound is sound
      pub derivable-sound : (s : Statement) → Derivable ds given s → IsSound s
      derivable-sound _ (reflexive x g) = record { left = refl; right = refl; holds = λ b. refl }
      derivable-sound _ (symmetric x y e d) =
          let h = derivable-sound _ d in
          record { left = refl; right = sym e; holds = λ b. sym (h.holds (λ q. b (e ∙ q))) }
      derivable-sound _ (transitive x y z d e) =
          let h = derivable-sound _ d in
          let k = derivable-sound _ e in
          record { left = refl; right = k.right ∙ h.right; holds = λ b. h.holds b ∙ k.holds (λ q. b (sym h.right ∙ q)) }
      derivable-sound _ (congruent f s xs ys g h e d) =
          record { left = refl; right = refl; holds = λ b. ap (applied v f) (values-same xs ys e (arguments-beside ds base f s xs g b) (derivable-all_sound _ d)) }
      derivable-sound _ (substitution r s x y u w d e f) =
          let h = derivable-sound _ d in
          let k = derivable-sound _ e in
          let l = derivable-sound _ f in
          record {
            left = k.right ∙ h.left;
            right = l.right ∙ h.right;
            holds = λ b.
                let p : value_of v x ≡ value_of v u = k.holds (λ q. b (sym h.left ∙ q)) in
                let q : value_of v y ≡ value_of v w = l.holds (λ q. b (sym h.right ∙ q)) in
                subst (λ z. RelHolds r z (value_of v w)) p (subst (λ z. RelHolds r (value_of v x) z) q (h.holds b));
          }
      derivable-sound _ (row r s with i fits d) = row-sound r s with i fits (derivable-all_sound _ d)
      derivable-sound _ (literal_law s l) = literal-sound s l
      derivable-sound _ (hypothesis s i) = known s i
      derivable-sound _ (rest s e) = supposed s e

      pub derivable-all_sound : (ss : List Statement) → AllDerivable ds given ss → AllSound ss
      derivable-all_sound _ none = tt
      derivable-all_sound _ (more s ss d ds') = (derivable-sound s d, derivable-all_sound ss ds')

-- what is derivable under nothing but the hypotheses of a base holds at the integers
pub derivable-true : (ds : List Declaration) → IsWellFormed ds → (s : Statement) → Derivable ds None s → HoldsAtIntegers ds s
derivable-true ds formed s d base v val hold b =
    let sorted = hypotheses-sorted [] ds formed in
    let known : (h : Statement) → Contains (hypotheses ds) h → IsSound ds base v val h =
    λ h i. let p = All-contains IsOfItsSort (hypotheses ds) h sorted i in record { left = p.0; right = p.1; holds = hold h i } in
    (derivable-sound ds base v val None known (λ g e. cc) s d).holds b
