-- Where hypotheses are combined, an expression that is no proof has no part that is one.
use Rattle.std.proofs.Common.{◌≡◌, Bool, true, false, not, ◌&&◌, ◌||◌, List, [], ◌∷◌, ◌++◌, Option, Some, None, refl}
use Rattle.alg_terms.specs.declared.sorts.Sort.{Sort}
use Rattle.alg_terms.specs.declared.symbols.Sym.TheVariants as symbol
use Rattle.alg_syntax.specs.declared.signs.Operator.TheVariants.{Add, Sub, Mul, Div, Mod, Smul, Pow}
use Rattle.alg_names.specs.declared.meanings.Meaning.{Meaning}
use Rattle.alg_names.specs.declared.meanings.Meaning.TheVariants.{SortName, Variable, Function, Shared, Hypothesis}
use Rattle.alg_names.specs.declared.scope.Scope.{Scope}
use Rattle.alg_names.specs.InForce.{meaning}
use Rattle.alg_elaborate.specs.declared.causes.Cause.{Cause}
use Rattle.alg_elaborate.specs.declared.causes.Cause.TheVariants.{BadCombination}
use Rattle.alg_elaborate.specs.Raw.{Raw, Raws, literal, named, negation, reciprocal, operation, applied, of_sort, none, more, count}
use Rattle.alg_elaborate.specs.Meanings.{is_hypothesis, type_of, argument_sorts}
use Rattle.alg_elaborate.specs.Regions.{exponent_sort, sort_or}
use Rattle.alg_law.specs.Combinations.{difference_of, quotient_of}
use Rattle.alg_elaborate.specs.Operations.{power_of, multiple_of}
use Rattle.alg_elaborate.specs.Combinations.{is_proof, any_proof, combines}
use Rattle.alg_elaborate.specs.Faults.{when, lacks, lacks_by, not_integral, name_faults, sort_name_faults, applied_faults, miscombines, faults, faults_of_each}
use Rattle.alg_well_sorted.proofs.Parts.{append_parts}

none_both : (xs ys : List Cause) → xs ≡ [] → ys ≡ [] → xs ++ ys ≡ []
none_both [] ys e f = f
none_both (x ∷ xs) ys e f = cc

used : (b : Bool) → when (true && b) BadCombination ≡ [] → b ≡ false
used true e = cc
used false e = refl

neither : (c x y : Bool) → c ≡ false → when (true && ((x || y) && not c)) BadCombination ≡ [] → (x ≡ false) × (y ≡ false)
neither true x y h e = cc
neither false true y h e = cc
neither false false true h e = cc
neither false false false h e = (refl, refl)

or_neither : (x y : Bool) → (x || y) ≡ false → (x ≡ false) × (y ≡ false)
or_neither true y e = cc
or_neither false y e = (refl, e)

name-unused : (k : Sort) (m : Option Meaning) → is_hypothesis m ≡ false → name_faults true k m ≡ [] → name_faults false k m ≡ []
name-unused k None h e = e
name-unused k (Some (SortName l)) h e = e
name-unused k (Some (Variable d l)) h e = e
name-unused k (Some (Function f ls l)) h e = e
name-unused k (Some (Shared f n)) h e = e
name-unused k (Some (Hypothesis n r l)) h e = cc

mutual
  pub faults-unused : (s : Scope) (k : Sort) (t : Raw) → is_proof s t ≡ false → faults s true k t ≡ [] → faults s false k t ≡ []
  faults-unused s k (literal n) h e = e
  faults-unused s k (named x) h e = name-unused k (meaning s x) h e
  faults-unused s k (negation a) h e =
      let p = append_parts (lacks s symbol.Neg k) (faults s true k a) e in
      none_both (lacks s symbol.Neg k) (faults s false k a) p.0 (faults-unused s k a h p.1)
  faults-unused s k (reciprocal a) h e =
      let p = append_parts (lacks s symbol.Inv k) (miscombines s true (reciprocal a) ++ faults s true k a) e in
      let q = append_parts (miscombines s true (reciprocal a)) (faults s true k a) p.1 in
      none_both (lacks s symbol.Inv k) (faults s false k a) p.0 (faults-unused s k a (used (is_proof s a) q.0) q.1)
  faults-unused s k (operation Add a b) h e =
      let p = append_parts (lacks s symbol.Add k) (miscombines s true (operation Add a b) ++ (faults s true k a ++ faults s true k b)) e in
      let q = append_parts (miscombines s true (operation Add a b)) (faults s true k a ++ faults s true k b) p.1 in
      let r = append_parts (faults s true k a) (faults s true k b) q.1 in
      let n = neither (combines Add (is_proof s a) (is_proof s b)) (is_proof s a) (is_proof s b) h q.0 in
      none_both (lacks s symbol.Add k) (faults s false k a ++ faults s false k b) p.0 (none_both (faults s false k a) (faults s false k b) (faults-unused s k a n.0 r.0) (faults-unused s k b n.1 r.1))
  faults-unused s k (operation Sub a b) h e =
      let p = append_parts (lacks s (difference_of k) k) (miscombines s true (operation Sub a b) ++ (faults s true k a ++ faults s true k b)) e in
      let q = append_parts (miscombines s true (operation Sub a b)) (faults s true k a ++ faults s true k b) p.1 in
      let r = append_parts (faults s true k a) (faults s true k b) q.1 in
      let n = neither (combines Sub (is_proof s a) (is_proof s b)) (is_proof s a) (is_proof s b) h q.0 in
      none_both (lacks s (difference_of k) k) (faults s false k a ++ faults s false k b) p.0 (none_both (faults s false k a) (faults s false k b) (faults-unused s k a n.0 r.0) (faults-unused s k b n.1 r.1))
  faults-unused s k (operation Mul a b) h e =
      let p = append_parts (lacks s symbol.Mul k) (miscombines s true (operation Mul a b) ++ (faults s true k a ++ faults s true k b)) e in
      let q = append_parts (miscombines s true (operation Mul a b)) (faults s true k a ++ faults s true k b) p.1 in
      let r = append_parts (faults s true k a) (faults s true k b) q.1 in
      let n = neither (combines Mul (is_proof s a) (is_proof s b)) (is_proof s a) (is_proof s b) h q.0 in
      none_both (lacks s symbol.Mul k) (faults s false k a ++ faults s false k b) p.0 (none_both (faults s false k a) (faults s false k b) (faults-unused s k a n.0 r.0) (faults-unused s k b n.1 r.1))
  faults-unused s k (operation Div a b) h e =
      let p = append_parts (lacks s (quotient_of k) k) (miscombines s true (operation Div a b) ++ (faults s true k a ++ faults s true k b)) e in
      let q = append_parts (miscombines s true (operation Div a b)) (faults s true k a ++ faults s true k b) p.1 in
      let r = append_parts (faults s true k a) (faults s true k b) q.1 in
      let n = neither (combines Div (is_proof s a) (is_proof s b)) (is_proof s a) (is_proof s b) h q.0 in
      none_both (lacks s (quotient_of k) k) (faults s false k a ++ faults s false k b) p.0 (none_both (faults s false k a) (faults s false k b) (faults-unused s k a n.0 r.0) (faults-unused s k b n.1 r.1))
  faults-unused s k (operation Mod a b) h e =
      let p = append_parts (lacks s symbol.Mod k) (miscombines s true (operation Mod a b) ++ (faults s true k a ++ faults s true k b)) e in
      let q = append_parts (miscombines s true (operation Mod a b)) (faults s true k a ++ faults s true k b) p.1 in
      let r = append_parts (faults s true k a) (faults s true k b) q.1 in
      let n = neither (combines Mod (is_proof s a) (is_proof s b)) (is_proof s a) (is_proof s b) h q.0 in
      none_both (lacks s symbol.Mod k) (faults s false k a ++ faults s false k b) p.0 (none_both (faults s false k a) (faults s false k b) (faults-unused s k a n.0 r.0) (faults-unused s k b n.1 r.1))
  faults-unused s k (operation Smul a b) h e =
      let l = exponent_sort s a in
      let p = append_parts (lacks_by s l (multiple_of l) k) (miscombines s true (operation Smul a b) ++ ((not_integral l ++ faults s true l a) ++ faults s true k b)) e in
      let q = append_parts (miscombines s true (operation Smul a b)) ((not_integral l ++ faults s true l a) ++ faults s true k b) p.1 in
      let r = append_parts (not_integral l ++ faults s true l a) (faults s true k b) q.1 in
      let i = append_parts (not_integral l) (faults s true l a) r.0 in
      let n = neither (combines Smul (is_proof s a) (is_proof s b)) (is_proof s a) (is_proof s b) h q.0 in
      none_both (lacks_by s l (multiple_of l) k) ((not_integral l ++ faults s false l a) ++ faults s false k b) p.0
      (none_both (not_integral l ++ faults s false l a) (faults s false k b) (none_both (not_integral l) (faults s false l a) i.0 (faults-unused s l a n.0 i.1)) (faults-unused s k b n.1 r.1))
  faults-unused s k (operation Pow a b) h e =
      let l = exponent_sort s b in
      let p = append_parts (lacks_by s l (power_of l) k) (miscombines s true (operation Pow a b) ++ (faults s true k a ++ (not_integral l ++ faults s true l b))) e in
      let q = append_parts (miscombines s true (operation Pow a b)) (faults s true k a ++ (not_integral l ++ faults s true l b)) p.1 in
      let r = append_parts (faults s true k a) (not_integral l ++ faults s true l b) q.1 in
      let i = append_parts (not_integral l) (faults s true l b) r.1 in
      let n = neither (combines Pow (is_proof s a) (is_proof s b)) (is_proof s a) (is_proof s b) h q.0 in
      none_both (lacks_by s l (power_of l) k) (faults s false k a ++ (not_integral l ++ faults s false l b)) p.0
      (none_both (faults s false k a) (not_integral l ++ faults s false l b) (faults-unused s k a n.0 r.0) (none_both (not_integral l) (faults s false l b) i.0 (faults-unused s l b n.1 i.1)))
  faults-unused s k (applied f us) h e =
      let p = append_parts (applied_faults s k (meaning s f) (count us)) (miscombines s true (applied f us) ++ faults_of_each s true us (argument_sorts k (meaning s f))) e in
      let q = append_parts (miscombines s true (applied f us)) (faults_of_each s true us (argument_sorts k (meaning s f))) p.1 in
      none_both (applied_faults s k (meaning s f) (count us)) (faults_of_each s false us (argument_sorts k (meaning s f))) p.0 (each-unused s us (argument_sorts k (meaning s f)) (used (any_proof s us) q.0) q.1)
  faults-unused s k (of_sort a x) h e =
      let l = sort_or k (type_of (meaning s x)) in
      let p = append_parts (sort_name_faults k (meaning s x)) (miscombines s true (of_sort a x) ++ faults s true l a) e in
      let q = append_parts (miscombines s true (of_sort a x)) (faults s true l a) p.1 in
      none_both (sort_name_faults k (meaning s x)) (faults s false l a) p.0 (faults-unused s l a (used (is_proof s a) q.0) q.1)

  each-unused : (s : Scope) (us : Raws) (ks : List Sort) → any_proof s us ≡ false → faults_of_each s true us ks ≡ [] → faults_of_each s false us ks ≡ []
  each-unused s none ks h e = refl
  each-unused s (more a us) [] h e = refl
  each-unused s (more a us) (k ∷ ks) h e =
      let p = append_parts (faults s true k a) (faults_of_each s true us ks) e in
      let n = or_neither (is_proof s a) (any_proof s us) h in
      none_both (faults s false k a) (faults_of_each s false us ks) (faults-unused s k a n.0 p.0) (each-unused s us ks n.1 p.1)
