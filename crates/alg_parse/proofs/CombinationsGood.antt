-- A combination without a fault comes to two trees, and its parts are good.
use Rattle.std.proofs.Common.{◌≡◌, Bool, true, false, ◌&&◌, List, [], ◌∷◌, ◌++◌, All, Option, Some, None, refl, ap, sym, ◌∙◌}
use Rattle.std.proofs.lemmas.Bool.{and_parts}
use Rattle.std.proofs.lemmas.List.Elements.{All-nil, All-cons, All-append}
use Rattle.std.specs.Option.{IsSome, is_some}
use Rattle.alg_terms.specs.declared.sorts.Sort.{Sort}
use Rattle.alg_terms.specs.declared.relations.Rel.TheVariants.{Eq}
use Rattle.alg_terms.specs.declared.symbols.Sym.TheVariants as symbol
use Rattle.alg_terms.specs.Tree.{Tree, Statement}
use Rattle.alg_terms.specs.Order.{rel_same, sort_same}
use Rattle.alg_terms.proofs.OrderLaws.{rel_same-equal, sort_same-equal}
use Rattle.alg_law.specs.Combinations.{Part, expression, negative, sum, difference, product, quotient, difference_of, quotient_of, sides, after, after_some, after_all, only, pair_of, Supports, IsPart, IsCombination}
use Rattle.alg_law.specs.Declarations.{Declaration, hypotheses}
use Rattle.alg_law.specs.Following.{IsKnown}
use Rattle.alg_syntax.specs.declared.signs.Operator.TheVariants.{Add, Sub, Mul, Div, Mod, Smul, Pow}
use Rattle.alg_names.specs.declared.meanings.Meaning.{Meaning}
use Rattle.alg_names.specs.declared.meanings.Meaning.TheVariants.{SortName, Variable, Function, Shared, Hypothesis}
use Rattle.alg_names.specs.declared.scope.Scope.{Scope}
use Rattle.alg_names.specs.InForce.{meaning}
use Rattle.alg_elaborate.specs.declared.causes.Cause.TheVariants.{BadCombination}
use Rattle.alg_elaborate.specs.Raw.{Raw, literal, named, negation, reciprocal, operation, applied, of_sort}
use Rattle.alg_elaborate.specs.Combinations.{is_proof, combines}
use Rattle.alg_elaborate.specs.Faults.{lacks, name_faults, miscombines, faults}
use Rattle.alg_elaborate.specs.TypedTrees.{typed_name, typed}
use Rattle.alg_combinations.specs.Combined.{named_part, where_proof, combined}
use Rattle.alg_well_sorted.specs.Agreeing.{IsMeant, Agrees}
use Rattle.alg_well_sorted.proofs.Parts.{append_parts, when_none, lacks_none}
use Rattle.alg_well_sorted.specs.OfSort.{IsOfSort}
use Rattle.alg_well_sorted.proofs.TypedGood.{is_meant, name-typed, typed-good}
use Rattle.alg_parse.proofs.NoProofs.{faults-unused}

-- good parts that put one pair before those that were there
pub record IsPushed (ds : List Declaration) (k : Sort) (xs : List Part) : Type 0 where
  pub parts : All (IsPart ds k) xs
  pub pushes : (ps : List (Tree × Tree)) → (p : Tree × Tree) × (after_all (hypotheses ds) k xs (Some ps) ≡ Some (p ∷ ps))

after_all-append : (hs : List Statement) (k : Sort) (xs ys : List Part) (o : Option (List (Tree × Tree))) → after_all hs k (xs ++ ys) o ≡ after_all hs k ys (after_all hs k xs o)
after_all-append hs k [] ys o = refl
after_all-append hs k (x ∷ xs) ys o = after_all-append hs k xs ys (after_some hs k x o)

one_part : (ds : List Declaration) (k : Sort) (x : Part) → IsPart ds k x → All (IsPart ds k) (x ∷ [])
one_part ds k x h = All-cons (IsPart ds k) x [] h (All-nil (IsPart ds k))

tree-pushed : (ds : List Declaration) (k : Sort) (t : Tree) → IsOfSort ds k t → IsPushed ds k (expression t ∷ [])
tree-pushed ds k t h = record { parts = one_part ds k (expression t) (h.good, h.sort); pushes = λ ps. ((t, t), refl) }

negated-pushed : (ds : List Declaration) (k : Sort) (xs : List Part) → Supports ds symbol.Neg k → IsPushed ds k xs → IsPushed ds k (xs ++ negative ∷ [])
negated-pushed ds k xs f h =
    record {
      parts = All-append (IsPart ds k) xs (negative ∷ []) h.parts (one_part ds k negative f);
      pushes = λ ps.
          let p = h.pushes ps in
          (_, after_all-append (hypotheses ds) k xs (negative ∷ []) (Some ps) ∙ ap (λ o. after_all (hypotheses ds) k (negative ∷ []) o) p.1);
    }

-- an operation puts a pair in the place of two
abbrev Joins : List Declaration → Sort → Part → Type 0
Joins ds k x = (q p : Tree × Tree) (ps : List (Tree × Tree)) → (r : Tree × Tree) × (after (hypotheses ds) k x (q ∷ p ∷ ps) ≡ Some (r ∷ ps))

joined-pushed : (ds : List Declaration) (k : Sort) (x : Part) (xs ys : List Part) → IsPart ds k x → Joins ds k x → IsPushed ds k xs → IsPushed ds k ys → IsPushed ds k (xs ++ (ys ++ x ∷ []))
joined-pushed ds k x xs ys f j h i =
    record {
      parts = All-append (IsPart ds k) xs (ys ++ x ∷ []) h.parts (All-append (IsPart ds k) ys (x ∷ []) i.parts (one_part ds k x f));
      pushes = λ ps.
          let hs = hypotheses ds in
          let p = h.pushes ps in
          let q = i.pushes (p.0 ∷ ps) in
          let r = j q.0 p.0 ps in (
            r.0,
            after_all-append hs k xs (ys ++ x ∷ []) (Some ps)
                ∙ ap (λ o. after_all hs k (ys ++ x ∷ []) o) p.1
                ∙ after_all-append hs k ys (x ∷ []) (Some (p.0 ∷ ps))
                ∙ ap (λ o. after_all hs k (x ∷ []) o) q.1
                ∙ r.1,
          );
    }

name-pushed : (ds : List Declaration) (k : Sort) (m : Option Meaning) → IsMeant ds m → IsKnown ds k → name_faults true k m ≡ [] → IsPushed ds k (named_part (typed_name k m) m ∷ [])
name-pushed ds k None h known e = cc
name-pushed ds k (Some (SortName l)) h known e = cc
name-pushed ds k (Some (Variable d l)) h known e = tree-pushed ds k (typed_name k (Some (Variable d l))) (name-typed ds k (Some (Variable d l)) h known e)
name-pushed ds k (Some (Function f ls l)) h known e = cc
name-pushed ds k (Some (Shared f n)) h known e = cc
name-pushed ds k (Some (Hypothesis n r l)) h known e =
    let b = and_parts (rel_same r Eq) (sort_same k l) (when_none (rel_same r Eq && sort_same k l) BadCombination e) in
    record {
      parts = one_part ds k _ (h.0, h.1, h.2 ∙ rel_same-equal r Eq b.0, h.3 ∙ sym (sort_same-equal k l b.1));
      pushes = λ ps. (((h.0).lhs, (h.0).rhs), ap (λ o. sides o ps) h.1);
    }

some_there : (o : Option (Tree × Tree)) (p : Tree × Tree) → o ≡ Some p → IsSome o
some_there o p e = ap is_some e

module _ (s : Scope) (ds : List Declaration) (g : Agrees s ds) where
  leaf-pushed : (k : Sort) (t : Raw) → IsKnown ds k → is_proof s t ≡ false → faults s true k t ≡ [] → IsPushed ds k (expression (typed s k t) ∷ [])
  leaf-pushed k t known h e = tree-pushed ds k (typed s k t) (typed-good s ds g k t known (faults-unused s k t h e))

  chosen : (b : Bool) (k : Sort) (t : Raw) (xs : List Part) → is_proof s t ≡ b → IsKnown ds k → faults s true k t ≡ [] → IsPushed ds k xs → IsPushed ds k (where_proof b xs (typed s k t))
  chosen true k t xs h known e p = p
  chosen false k t xs h known e p = leaf-pushed k t known h e

  -- what an expression without a fault says as a combination
  pub combined-pushed : (k : Sort) (t : Raw) → IsKnown ds k → faults s true k t ≡ [] → IsPushed ds k (combined s k t)
  combined-pushed k (literal n) known e = leaf-pushed k (literal n) known refl e
  combined-pushed k (named x) known e = name-pushed ds k (meaning s x) (is_meant s ds g x) known e
  combined-pushed k (negation a) known e =
      let p = append_parts (lacks s symbol.Neg k) (faults s true k a) e in
      chosen (is_proof s a) k (negation a) (combined s k a ++ negative ∷ []) refl known e (negated-pushed ds k (combined s k a) (lacks_none s ds g symbol.Neg k p.0) (combined-pushed k a known p.1))
  combined-pushed k (reciprocal a) known e = leaf-pushed k (reciprocal a) known refl e
  combined-pushed k (operation Add a b) known e =
      let p = append_parts (lacks s symbol.Add k) (miscombines s true (operation Add a b) ++ (faults s true k a ++ faults s true k b)) e in
      let q = append_parts (miscombines s true (operation Add a b)) (faults s true k a ++ faults s true k b) p.1 in
      let r = append_parts (faults s true k a) (faults s true k b) q.1 in
      chosen (combines Add (is_proof s a) (is_proof s b)) k (operation Add a b) (combined s k a ++ (combined s k b ++ sum ∷ [])) refl known e
      (joined-pushed ds k sum (combined s k a) (combined s k b) (lacks_none s ds g symbol.Add k p.0) (λ q p ps. (_, refl)) (combined-pushed k a known r.0) (combined-pushed k b known r.1))
  combined-pushed k (operation Sub a b) known e =
      let f = difference_of k in
      let p = append_parts (lacks s f k) (miscombines s true (operation Sub a b) ++ (faults s true k a ++ faults s true k b)) e in
      let q = append_parts (miscombines s true (operation Sub a b)) (faults s true k a ++ faults s true k b) p.1 in
      let r = append_parts (faults s true k a) (faults s true k b) q.1 in
      chosen (combines Sub (is_proof s a) (is_proof s b)) k (operation Sub a b) (combined s k a ++ (combined s k b ++ difference ∷ [])) refl known e
      (joined-pushed ds k difference (combined s k a) (combined s k b) (lacks_none s ds g f k p.0) (λ q p ps. (_, refl)) (combined-pushed k a known r.0) (combined-pushed k b known r.1))
  combined-pushed k (operation Mul a b) known e =
      let p = append_parts (lacks s symbol.Mul k) (miscombines s true (operation Mul a b) ++ (faults s true k a ++ faults s true k b)) e in
      let q = append_parts (miscombines s true (operation Mul a b)) (faults s true k a ++ faults s true k b) p.1 in
      let r = append_parts (faults s true k a) (faults s true k b) q.1 in
      chosen (combines Mul (is_proof s a) (is_proof s b)) k (operation Mul a b) (combined s k a ++ (combined s k b ++ product ∷ [])) refl known e
      (joined-pushed ds k product (combined s k a) (combined s k b) (lacks_none s ds g symbol.Mul k p.0) (λ q p ps. (_, refl)) (combined-pushed k a known r.0) (combined-pushed k b known r.1))
  combined-pushed k (operation Div a b) known e =
      let f = quotient_of k in
      let p = append_parts (lacks s f k) (miscombines s true (operation Div a b) ++ (faults s true k a ++ faults s true k b)) e in
      let q = append_parts (miscombines s true (operation Div a b)) (faults s true k a ++ faults s true k b) p.1 in
      let r = append_parts (faults s true k a) (faults s true k b) q.1 in
      chosen (combines Div (is_proof s a) (is_proof s b)) k (operation Div a b) (combined s k a ++ (combined s k b ++ quotient ∷ [])) refl known e
      (joined-pushed ds k quotient (combined s k a) (combined s k b) (lacks_none s ds g f k p.0) (λ q p ps. (_, refl)) (combined-pushed k a known r.0) (combined-pushed k b known r.1))
  combined-pushed k (operation Mod a b) known e = leaf-pushed k (operation Mod a b) known refl e
  combined-pushed k (operation Smul a b) known e = leaf-pushed k (operation Smul a b) known refl e
  combined-pushed k (operation Pow a b) known e = leaf-pushed k (operation Pow a b) known refl e
  combined-pushed k (applied f us) known e = leaf-pushed k (applied f us) known refl e
  combined-pushed k (of_sort a x) known e = leaf-pushed k (of_sort a x) known refl e

  pub combined-good : (k : Sort) (t : Raw) → IsKnown ds k → faults s true k t ≡ [] → IsCombination ds k (combined s k t)
  combined-good k t known e =
      let h = combined-pushed k t known e in
      let p = h.pushes [] in
      record { parts = h.parts; pair = some_there (pair_of ds k (combined s k t)) p.0 (ap only p.1) }
