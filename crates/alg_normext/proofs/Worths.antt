-- What the lines ask for that compute a function of whole numbers.
use Rattle.std.proofs.Common.{◌≡◌, ℕ, ◌≤◌, length, inl, inr, ℤ, true, List, [], ◌∷◌, map, refl, sym, ◌∙◌, subst, arith, to_z, of_z}
use Rattle.std.specs.Int.{w128}
use Rattle.std.proofs.lemmas.Bool.Decides.{nat_tests}
use Rattle.std.proofs.lemmas.Int.{to_z-of_z, fits_signed_from_abs}
use Rattle.std.proofs.lemmas.List.{length-map}
use Rattle.std.proofs.lemmas.List.Elements.{All-head, All-tail}
use Rattle.alg_terms.specs.declared.sorts.Sort.{Sort}
use Rattle.alg_terms.specs.declared.symbols.Sym.{Sym}
use Rattle.alg_terms.specs.Symbols.{is_integral}
use Rattle.alg_terms.specs.Tree.{Tree, App, of_list, equal, sort_of_tree}
use Rattle.alg_expr.specs.Ids.{tree_of}
use Rattle.alg_num.specs.Fraction.{Fraction}
use Rattle.alg_num.specs.Range.{InRange}
use Rattle.alg_law.specs.declared.marks.Mark.TheVariants.{Good}
use Rattle.alg_law.specs.WellSorted.{head_mark, sort_mark, symbol_mark, marks_of}
use Rattle.alg_law.proofs.WellSortedLaws.{worse-parts}
use Rattle.alg_proof.specs.Admissible.{IsFine}
use Rattle.alg_proof.specs.Computations.{numerals_at, is_small_integer}
use Rattle.alg_build.specs.Book.{Book, Grows, Proves, fact}
use Rattle.alg_build.specs.Computing.{Computes}
use Rattle.alg_build.specs.Rewriting.{AllProve, CanStand, Follows, Heads, IsRewriting, Turns}
use Rattle.alg_build.specs.declared.rewriting.Rewriting.{Rewriting}
use Rattle.alg_build.proofs.Lines.{proves-fact}
use Rattle.alg_build.proofs.Rewritings.{follows, grows-turns, is-rewriting}
use Rattle.alg_values.specs.Numerals.{numeral_tree}
use Rattle.alg_exts.specs.Valuing.{IsValued, trees_of, fractions_of}
use Rattle.alg_exts.specs.declared.num_ext.Valued.{Valued}
use Rattle.alg_normext.specs.Wholes.{IsWhole, HasWholeValue, IsReady, IsWorth}
use Rattle.alg_normext.specs.declared.heads.Head.{Head}
use Rattle.alg_normext.proofs.Numerals.{whole-numeral, numeral-has, over-one}
use Rattle.alg_normext.proofs.Functions.{name-whole, one-sort, two-sorts, whole-integral, has-whole-value, one_or_two}

small_integer : (z : ℤ) → InRange z → is_small_integer z ≡ true
small_integer z h = grind (arith, nat_tests)

pub is-whole : (b : Book) (s : Sort) (v : Valued) → IsValued b v → sort_of_tree (tree_of b.trees v.expr) ≡ s → is_integral s ≡ true → IsFine b.theory.declarations b.theory.given (fact b v.line) → InRange v.value.numerator → IsWhole b s v
is-whole b s v h e i fine r =
    let t : Tree = tree_of b.trees v.expr in
    let proves : Proves b v.line t (numeral_tree s v.value) = subst (λ (s : Sort). Proves b v.line t (numeral_tree s v.value)) e h.proves in
    let f : IsFine b.theory.declarations b.theory.given (equal t (numeral_tree s v.value)) = subst (IsFine b.theory.declarations b.theory.given) (proves-fact b v.line t (numeral_tree s v.value) proves) fine in
    let n = whole-numeral b.theory.declarations s v.value i f.statement.right in
    record {
      sort = e;
      proves = subst (λ (u : Tree). Proves b v.line t u) (over-one s v.value n.0) proves;
      has = numeral-has b.theory.declarations s v.value.numerator n.1;
      small = small_integer v.value.numerator r;
    }

pub grows-computes : (a b : Book) (f : Sym) (s : Sort) (xs : List ℤ) → Grows a b → Computes a f s xs → Computes b f s xs
grows-computes a b f s xs g h = record {
  name = rw g.theory h.name;
  known = rw g.theory h.known;
  head = rw g.theory h.head;
  numerals = rw g.theory h.numerals;
  small = h.small;
  value = h.value;
  is = h.is;
  small_value = h.small_value;
}

in_range : (z : ℤ) → is_small_integer z ≡ true → InRange z
in_range z h = grind (arith, nat_tests)

-- a number that was written and read again
pub read_back : (x z : ℤ) → x ≡ z → is_small_integer z ≡ true → to_z w128 (of_z w128 x) ≡ z
read_back x z e r =
    let P : ℤ → Type 0 = λ y. InRange y in
    to_z-of_z w128 x (fits_signed_from_abs w128 x (subst P (sym e) (in_range z r))) ∙ e

-- the two rewritings that meet in the numerals
module _ (b c d : Book) (h : Head) (p : Fraction) (lines : List ℕ) (xs : List ℤ) (r s : Rewriting) (g : Grows c d)
    (over : (t : Sort) (us vs : List Tree) → AllProve b lines us vs → Heads b h.sym t (map sort_of_tree us) → Turns c t r (App h.sym t (of_list us)) (App h.sym t (of_list vs)))
    (value : Turns d h.sort s (App h.sym h.sort (of_list (numerals_at h.sort xs))) (numeral_tree h.sort p)) where
  module _ (ts : List Tree) (prove : AllProve b lines ts (numerals_at h.sort xs)) (heads : Heads b h.sym h.sort (map sort_of_tree ts)) where
    first : Turns d h.sort r (App h.sym h.sort (of_list ts)) (App h.sym h.sort (of_list (numerals_at h.sort xs)))
    first = grows-turns c d g h.sort r _ _ (over h.sort ts (numerals_at h.sort xs) prove heads)

    pub both-follow : Follows d r s
    both-follow = follows d h.sort r s _ _ _ first value

    module _ (e f : Book) (q : Rewriting) (n : ℕ)
        (whole : (t : Sort) (x y z : Tree) → Turns d t r x y → Turns d t s y z → Turns e t q x z)
        (line : (t : Sort) (x y : Tree) → Turns e t q x y → Proves f n x y) where
      turned : Turns e h.sort q (App h.sym h.sort (of_list ts)) (numeral_tree h.sort p)
      turned = whole h.sort _ _ _ first value

      pub both-prove : Proves f n (App h.sym h.sort (of_list ts)) (numeral_tree h.sort p)
      both-prove = line h.sort _ _ turned

    pub both-turn : (e : Book) (q : Rewriting) → ((t : Sort) (x y z : Tree) → Turns d t r x y → Turns d t s y z → Turns e t q x z) → IsRewriting e q
    both-turn e q whole = is-rewriting e h.sort q _ _ (whole h.sort _ _ _ first value)

module _ (b : Book) (h : Head) (p : Fraction) where
  module _ (a : Valued) (w : IsWorth b h (a ∷ []) p) where
    one-head : head_mark b.theory.declarations h.sym h.sort (sort_of_tree (tree_of b.trees a.expr) ∷ []) ≡ Good
    one-head = (worse-parts (head_mark b.theory.declarations h.sym h.sort (sort_of_tree (tree_of b.trees a.expr) ∷ [])) (marks_of b.theory.declarations (of_list (trees_of b (a ∷ [])))) w.sorted).0

    pub one-valued : IsValued b a
    one-valued = All-head (IsValued b) a [] w.valued

    pub one-part : sort_of_tree (tree_of b.trees a.expr) ≡ h.sort
    one-part = one-sort b.theory.declarations h.sort h.sym (sort_of_tree (tree_of b.trees a.expr)) w.whole one-head

    pub one-integral : is_integral h.sort ≡ true
    one-integral = whole-integral h.sort h.sym (a.value ∷ []) p w.value

    pub one-value : HasWholeValue h (a.value.numerator ∷ []) p
    one-value = has-whole-value h (a.value ∷ []) p w.value

    pub one-heads : Heads b h.sym h.sort (sort_of_tree (tree_of b.trees a.expr) ∷ [])
    one-heads = record { good = one-head }

    pub one-computes : IsWhole b h.sort a → Computes b h.sym h.sort (a.value.numerator ∷ [])
    one-computes n = record {
      name = name-whole b.theory.declarations h.sym w.whole;
      known = (worse-parts (sort_mark b.theory.declarations h.sort) (symbol_mark b.theory.declarations h.sym h.sort (sort_of_tree (tree_of b.trees a.expr) ∷ [])) one-head).0;
      head = subst (λ (t : Sort). head_mark b.theory.declarations h.sym h.sort (t ∷ []) ≡ Good) one-part one-head;
      numerals = rw n.has refl;
      small = rw n.small refl;
      value = p.numerator;
      is = one-value.value;
      small_value = one-value.small;
    }

    -- the number as the code has it
    module _ (n : IsWhole b h.sort a) (x : ℤ) (e : x ≡ a.value.numerator) where
      pub one-proves : AllProve b (a.line ∷ []) (tree_of b.trees a.expr ∷ []) (numerals_at h.sort (x ∷ []))
      one-proves = rw e (n.proves, tt)

      pub one-ready : IsReady b h (a.line ∷ []) (x ∷ []) p
      one-ready = record {
        trees = tree_of b.trees a.expr ∷ [];
        prove = one-proves;
        heads = one-heads;
        computes = rw e (one-computes n);
        value = rw e one-value;
      }

  module _ (a c : Valued) (w : IsWorth b h (a ∷ c ∷ []) p) where
    two-head : head_mark b.theory.declarations h.sym h.sort (sort_of_tree (tree_of b.trees a.expr) ∷ sort_of_tree (tree_of b.trees c.expr) ∷ []) ≡ Good
    two-head = (worse-parts (head_mark b.theory.declarations h.sym h.sort (sort_of_tree (tree_of b.trees a.expr) ∷ sort_of_tree (tree_of b.trees c.expr) ∷ [])) (marks_of b.theory.declarations (of_list (trees_of b (a ∷ c ∷ [])))) w.sorted).0

    pub first-valued : IsValued b a
    first-valued = All-head (IsValued b) a (c ∷ []) w.valued

    pub second-valued : IsValued b c
    second-valued = All-head (IsValued b) c [] (All-tail (IsValued b) a (c ∷ []) w.valued)

    two-parts : (sort_of_tree (tree_of b.trees a.expr) ≡ h.sort) × (sort_of_tree (tree_of b.trees c.expr) ≡ h.sort)
    two-parts = two-sorts b.theory.declarations h.sort h.sym (sort_of_tree (tree_of b.trees a.expr)) (sort_of_tree (tree_of b.trees c.expr)) w.whole two-head

    pub first-part : sort_of_tree (tree_of b.trees a.expr) ≡ h.sort
    first-part = two-parts.0

    pub second-part : sort_of_tree (tree_of b.trees c.expr) ≡ h.sort
    second-part = two-parts.1

    pub two-integral : is_integral h.sort ≡ true
    two-integral = whole-integral h.sort h.sym (a.value ∷ c.value ∷ []) p w.value

    pub two-value : HasWholeValue h (a.value.numerator ∷ c.value.numerator ∷ []) p
    two-value = has-whole-value h (a.value ∷ c.value ∷ []) p w.value

    pub two-heads : Heads b h.sym h.sort (sort_of_tree (tree_of b.trees a.expr) ∷ sort_of_tree (tree_of b.trees c.expr) ∷ [])
    two-heads = record { good = two-head }

    pub two-compute : IsWhole b h.sort a → IsWhole b h.sort c → Computes b h.sym h.sort (a.value.numerator ∷ c.value.numerator ∷ [])
    two-compute m n = record {
      name = name-whole b.theory.declarations h.sym w.whole;
      known = (worse-parts (sort_mark b.theory.declarations h.sort) (symbol_mark b.theory.declarations h.sym h.sort (sort_of_tree (tree_of b.trees a.expr) ∷ sort_of_tree (tree_of b.trees c.expr) ∷ [])) two-head).0;
      head = rw (first-part, second-part) at two-head;
      numerals = rw (m.has, n.has) refl;
      small = rw (m.small, n.small) refl;
      value = p.numerator;
      is = two-value.value;
      small_value = two-value.small;
    }

    module _ (m : IsWhole b h.sort a) (n : IsWhole b h.sort c) (x y : ℤ) (e : x ≡ a.value.numerator) (f : y ≡ c.value.numerator) where
      pub two-prove : AllProve b (a.line ∷ c.line ∷ []) (tree_of b.trees a.expr ∷ tree_of b.trees c.expr ∷ []) (numerals_at h.sort (x ∷ y ∷ []))
      two-prove = rw (e, f) (m.proves, (n.proves, tt))

      pub two-ready : IsReady b h (a.line ∷ c.line ∷ []) (x ∷ y ∷ []) p
      two-ready = record {
        trees = tree_of b.trees a.expr ∷ tree_of b.trees c.expr ∷ [];
        prove = two-prove;
        heads = two-heads;
        computes = rw (e, f) (two-compute m n);
        value = rw (e, f) two-value;
      }

-- the lines may stand under the function
pub ready-stand : (b : Book) (h : Head) (lines : List ℕ) (xs : List ℤ) (p : Fraction) → IsReady b h lines xs p → CanStand b h.sym lines
ready-stand b h lines xs p r = record { sort = h.sort; from = r.trees; into = numerals_at h.sort xs; prove = r.prove; heads = r.heads }

-- a function of whole numbers has one part or two
pub part_count : (b : Book) (h : Head) (args : List Valued) (p : Fraction) → IsWorth b h args p → (1 ≤ length args) × (length args ≤ 2)
part_count b h args p w =
    let e : length (fractions_of args) ≡ length args = length-map args (λ v. v.value) in
    elim (one_or_two h.sort h.sym (fractions_of args) p w.value) [
      | inl k ↦ (omega (arith, e, k), omega (arith, e, k))
      | inr k ↦ (omega (arith, e, k), omega (arith, e, k))
    ]
