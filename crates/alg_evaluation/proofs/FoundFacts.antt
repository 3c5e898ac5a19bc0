-- What callers read off what is found of a tree, and that it lasts as the book grows.
use Rattle.std.proofs.Common.{◌≡◌, ℕ, zero, suc, ◌<◌, ℤ, pos, negsuc, List, [], ◌∷◌, length, get_or, refl, ap, sym, ◌∙◌, subst, arith, Bool, true, false}
use Rattle.alg_terms.specs.declared.sorts.Sort.{Sort}
use Rattle.alg_terms.specs.declared.sorts.Sort.TheVariants.{Nat, Int}
use Rattle.alg_terms.specs.declared.symbols.Sym.{Sym}
use Rattle.alg_terms.specs.Tree.{Tree, Lit, sort_of_tree}
use Rattle.alg_expr.specs.declared.ids.ExprId.{ExprId}
use Rattle.alg_expr.specs.Ids.{tree_of}
use Rattle.alg_build.specs.Book.{Book, Grows}
use Rattle.alg_build.specs.Rewriting.{Turns}
use Rattle.alg_marks.proofs.Walking.{all_grows}
use Rattle.alg_values.specs.Setting.{setting}
use Rattle.alg_values.specs.Arithmetic.{size_of, whole_number}
use Rattle.alg_values.specs.Values.{value}
use Rattle.alg_values.specs.Numerals.{numeral_tree, signed_tree, whole_tree}
use Rattle.alg_values.specs.declared.value.Value.TheVariants.{Num, Past, Without}
use Rattle.alg_value_laws.specs.Fitting.{Fits}
use Rattle.alg_value_laws.proofs.Fractions.{natural_fits, integer_fits}
use Rattle.alg_value_laws.proofs.Valuing.{value_fits}
use Rattle.alg_evaluation.specs.declared.found.Found.{Found}
use Rattle.alg_evaluation.specs.declared.found.Kind.{Kind}
use Rattle.alg_evaluation.specs.declared.found.Kind.TheVariants as kind
use Rattle.alg_evaluation.specs.Found.{AreFound, IsFound, TurnsToNumeral, absent, worth_of}
use Rattle.alg_evaluation.proofs.Finding.{normal-valued}
use Rattle.alg_evaluation.proofs.Walking.{found-grows}

-- whole numbers have one tree, with the sign outside or inside

signed-whole : (s : Sort) (z : ℤ) → signed_tree s (whole_number z) ≡ whole_tree s z
unfolding whole_tree
signed-whole s (pos n) = refl
signed-whole s (negsuc n) = refl

module _ (covers : Sym → Bool) (b : Book) (t : Tree) (f : Found) (h : IsFound covers b t f) where
  pub found_past : f.kind ≡ kind.Past → value (setting b.theory.declarations covers) t ≡ Past
  found_past e = sym h.value ∙ ap (λ kd. worth_of kd f.value) e

  pub found_without : f.kind ≡ kind.Without → value (setting b.theory.declarations covers) t ≡ Without
  found_without e = sym h.value ∙ ap (λ kd. worth_of kd f.value) e

  -- where there is a value
  module _ (e : f.kind ≡ kind.Num) where
    pub found_value : value (setting b.theory.declarations covers) t ≡ Num f.value
    found_value = sym h.value ∙ ap (λ kd. worth_of kd f.value) e

    pub found_signed : Turns b (sort_of_tree t) f.by t (signed_tree (sort_of_tree t) f.value)
    found_signed = subst (λ (kd : Kind). TurnsToNumeral b (sort_of_tree t) f.by t (worth_of kd f.value)) e h.numeral

    pub found_numeral : Turns b (sort_of_tree t) f.shown t (numeral_tree (sort_of_tree t) f.value)
    found_numeral = subst (λ (u : Tree). Turns b (sort_of_tree t) f.shown t u) (normal-valued (setting b.theory.declarations covers) t f.value found_value) h.shown

    pub found_fits : Fits b.theory.declarations (sort_of_tree t) f.value
    found_fits = value_fits b.theory.declarations covers t f.value h.stands.sorted found_value

    -- a natural number, as exponents of powers and multiples are
    module _ (n : sort_of_tree t ≡ Nat) where
      its-natural : (m : ℕ) × (f.value ≡ whole_number (pos m))
      its-natural = natural_fits b.theory.declarations f.value (subst (λ (s : Sort). Fits b.theory.declarations s f.value) n found_fits)

      pub natural_found : f.value ≡ whole_number (pos (size_of f.value))
      natural_found = its-natural.1 ∙ ap (λ m. whole_number (pos m)) (sym (ap size_of its-natural.1))

      pub natural_turns : Turns b Nat f.by t (Lit Nat (size_of f.value))
      natural_turns =
          let w : Turns b Nat f.by t (signed_tree Nat f.value) = subst (λ (s : Sort). Turns b s f.by t (signed_tree s f.value)) n found_signed in
          subst (λ (u : Tree). Turns b Nat f.by t u) (ap (signed_tree Nat) natural_found) w

    -- an integer
    module _ (n : sort_of_tree t ≡ Int) where
      pub integer_found : f.value ≡ whole_number f.value.numerator
      integer_found = integer_fits b.theory.declarations f.value (subst (λ (s : Sort). Fits b.theory.declarations s f.value) n found_fits)

      pub integer_turns : Turns b Int f.by t (whole_tree Int f.value.numerator)
      integer_turns =
          let w : Turns b Int f.by t (signed_tree Int f.value) = subst (λ (s : Sort). Turns b s f.by t (signed_tree s f.value)) n found_signed in
          subst (λ (u : Tree). Turns b Int f.by t u) (ap (signed_tree Int) integer_found ∙ signed-whole Int f.value.numerator) w

-- of all trees

flag-within : (bs : List Bool) (i : ℕ) → get_or bs i false ≡ true → i < length bs
flag-within [] i e = cc
flag-within (b ∷ bs) zero e = omega arith
flag-within (b ∷ bs) (suc i) e = omega (arith, flag-within bs i e)

pub found_within : (wanted : List Bool) (found : List Found) (e : ExprId) → length found ≡ length wanted → get_or wanted e.index false ≡ true → e.index < length found
found_within wanted found e n w = omega (arith, n, flag-within wanted e.index w)

module _ (covers : Sym → Bool) where
  pub found_at : (b : Book) (wanted : List Bool) (found : List Found) (e : ExprId) → AreFound covers b wanted found → length found ≡ length wanted → get_or wanted e.index false ≡ true → IsFound covers b (tree_of b.trees e) (get_or found e.index absent)
  found_at b wanted found e h n w = h.each e.index (found_within wanted found e n w) w

  pub are_found-grows : (a b : Book) (wanted : List Bool) (found : List Found) → Grows a b → AreFound covers a wanted found → AreFound covers b wanted found
  are_found-grows a b wanted found g h = all_grows (IsFound covers) absent (found-grows covers) a b wanted found g h
