-- A statement without a fault is a statement.
use Rattle.std.proofs.Common.{◌≡◌, Bool, true, false, List, [], ◌∷◌, ◌++◌, Option, Some, None, refl, sym, ◌∙◌}
use Rattle.std.specs.Prelude.{⊤}
use Rattle.alg_terms.specs.declared.sorts.Sort.{Sort}
use Rattle.alg_terms.specs.declared.sorts.Sort.TheVariants.{Nat}
use Rattle.alg_terms.specs.declared.relations.Rel.{Rel}
use Rattle.alg_terms.specs.declared.relations.Rel.TheVariants.{Eq, Ne, Lt, Le, Dvd}
use Rattle.alg_terms.specs.Tree.{Tree}
use Rattle.alg_law.specs.declared.classes.Class.{Class}
use Rattle.alg_law.specs.declared.classes.Class.TheVariants.{LinearOrder}
use Rattle.alg_law.specs.Declarations.{Declaration}
use Rattle.alg_law.specs.Following.{IsKnown}
use Rattle.alg_law.specs.Having.{has_class}
use Rattle.alg_law.specs.WellSorted.{has_relation, IsStatement}
use Rattle.alg_syntax.specs.declared.statements.Statement.{Statement}
use Rattle.alg_names.specs.declared.meanings.Meaning.{Meaning}
use Rattle.alg_names.specs.declared.meanings.Meaning.TheVariants.{SortName, Variable, Function, Shared, Hypothesis}
use Rattle.alg_names.specs.declared.scope.Scope.{Scope}
use Rattle.alg_names.specs.InForce.{meaning, instances, relates}
use Rattle.alg_elaborate.specs.declared.causes.Cause.TheVariants as cause
use Rattle.alg_elaborate.specs.Raw.{Raw, literal, named, negation, reciprocal, operation, applied, of_sort, meant}
use Rattle.alg_elaborate.specs.Meanings.{type_of, value_sort}
use Rattle.alg_elaborate.specs.Regions.{leaves, leaf_sort, or_else, first_known, sort_or}
use Rattle.alg_elaborate.specs.Faults.{faults}
use Rattle.alg_elaborate.specs.TypedTrees.{typed}
use Rattle.alg_elaborate.specs.Statements.{relation_of, exchanges, statement_sort, relation_faults, statement_faults, ordered, typed_statement}
use Rattle.alg_well_sorted.specs.Agreeing.{IsMeant, Agrees}
use Rattle.alg_well_sorted.proofs.Parts.{append_parts, when_none, has_same}
use Rattle.alg_well_sorted.specs.OfSort.{IsOfSort}
use Rattle.alg_well_sorted.proofs.TypedGood.{is_meant, typed-good}

-- a sort that is there is known
abbrev pub IsKnownIf : List Declaration → Option Sort → Type 0
IsKnownIf ds None = ⊤
IsKnownIf ds (Some k) = IsKnown ds k

value-known : (ds : List Declaration) (m : Option Meaning) → IsMeant ds m → IsKnownIf ds (value_sort m)
value-known ds None h = tt
value-known ds (Some (SortName l)) h = tt
value-known ds (Some (Variable d l)) h = h.1
value-known ds (Some (Function f ls l)) h = h.value
value-known ds (Some (Shared f n)) h = tt
value-known ds (Some (Hypothesis n r l)) h = tt

pub type-known : (ds : List Declaration) (m : Option Meaning) → IsMeant ds m → IsKnownIf ds (type_of m)
type-known ds None h = tt
type-known ds (Some (SortName l)) h = h
type-known ds (Some (Variable d l)) h = tt
type-known ds (Some (Function f ls l)) h = tt
type-known ds (Some (Shared f n)) h = tt
type-known ds (Some (Hypothesis n r l)) h = tt

leaf-known : (s : Scope) (ds : List Declaration) → Agrees s ds → (t : Raw) → IsKnownIf ds (leaf_sort s t)
leaf-known s ds a (literal n) = tt
leaf-known s ds a (named x) = value-known ds (meaning s x) (is_meant s ds a x)
leaf-known s ds a (negation t) = tt
leaf-known s ds a (reciprocal t) = tt
leaf-known s ds a (operation o t u) = tt
leaf-known s ds a (applied f us) = value-known ds (meaning s f) (is_meant s ds a f)
leaf-known s ds a (of_sort t x) = type-known ds (meaning s x) (is_meant s ds a x)

either-known : (ds : List Declaration) (o p : Option Sort) → IsKnownIf ds o → IsKnownIf ds p → IsKnownIf ds (or_else o p)
either-known ds None p h k = k
either-known ds (Some l) p h k = h

first-known : (s : Scope) (ds : List Declaration) → Agrees s ds → (ts : List Raw) → IsKnownIf ds (first_known s ts)
first-known s ds a [] = tt
first-known s ds a (t ∷ ts) = either-known ds (leaf_sort s t) (first_known s ts) (leaf-known s ds a t) (first-known s ds a ts)

sort_or-known : (ds : List Declaration) (k : Sort) (o : Option Sort) → IsKnown ds k → IsKnownIf ds o → IsKnown ds (sort_or k o)
sort_or-known ds k None h p = h
sort_or-known ds k (Some l) h p = p

relation_same : (es ds : List Declaration) (k : Sort) → ((c : Class) → has_class es k c ≡ has_class ds k c) → (r : Rel) → has_relation es r k ≡ has_relation ds r k
relation_same es ds k h Eq = refl
relation_same es ds k h Ne = refl
relation_same es ds k h Lt = h LinearOrder
relation_same es ds k h Le = h LinearOrder
relation_same es ds k h Dvd = refl

ordered-good : (ds : List Declaration) (b : Bool) (r : Rel) (k : Sort) (x y : Tree) → has_relation ds r k ≡ true → IsOfSort ds k x → IsOfSort ds k y → IsStatement ds (ordered b r k x y)
ordered-good ds true r k x y h g i = record { left = i.good; right = g.good; left_sort = i.sort; right_sort = g.sort; related = h }
ordered-good ds false r k x y h g i = record { left = g.good; right = i.good; left_sort = g.sort; right_sort = i.sort; related = h }

-- the sort of a statement is known
pub statement_sort-known : (s : Scope) (ds : List Declaration) → Agrees s ds → (p : Statement) → IsKnown ds (statement_sort s p)
statement_sort-known s ds a p =
    let ts = leaves s (meant p.lhs) ++ leaves s (meant p.rhs) in
    sort_or-known ds Nat (first_known s ts) refl (first-known s ds a ts)

pub statement-good : (s : Scope) (ds : List Declaration) → Agrees s ds → (p : Statement) → statement_faults s p ≡ [] → IsStatement ds (typed_statement s p)
statement-good s ds a p e =
    let k = statement_sort s p in
    let r = relation_of p.relation in
    let known : IsKnown ds k = statement_sort-known s ds a p in
    let q = append_parts (relation_faults s k p.relation) (faults s false k (meant p.lhs) ++ faults s false k (meant p.rhs)) e in
    let f = append_parts (faults s false k (meant p.lhs)) (faults s false k (meant p.rhs)) q.1 in
    let h : has_relation ds r k ≡ true = sym (relation_same (instances s) ds k (has_same s ds a k) r) ∙ when_none (relates s r k) cause.NoInstance q.0 in
    ordered-good ds (exchanges p.relation) r k (typed s k (meant p.lhs)) (typed s k (meant p.rhs)) h
    (typed-good s ds a k (meant p.lhs) known f.0) (typed-good s ds a k (meant p.rhs) known f.1)
