-- The faults of an expression, a node before its parts and parts from left to right. The first is reported.
use Rattle.std.specs.Prelude.{ℕ, List, [], ◌∷◌, ◌++◌, length, Bool, true, false, not, ◌&&◌, nat_eq, nat_lt, ◌^◌, Option, Some, None}
use Rattle.alg_terms.specs.declared.sorts.Sort.{Sort}
use Rattle.alg_terms.specs.declared.symbols.Sym.{Sym}
use Rattle.alg_terms.specs.declared.symbols.Sym.TheVariants as sym
use Rattle.alg_terms.specs.declared.relations.Rel.{Rel}
use Rattle.alg_terms.specs.declared.relations.Rel.TheVariants.{Eq}
use Rattle.alg_terms.specs.Order.{sort_same, rel_same}
use Rattle.alg_terms.specs.Symbols.{is_integral}
use Rattle.alg_law.specs.WellSorted.{literal_class}
use Rattle.alg_syntax.specs.declared.signs.Operator.TheVariants.{Add, Sub, Mul, Div, Mod, Smul, Pow}
use Rattle.alg_names.specs.declared.meanings.Meaning.{Meaning}
use Rattle.alg_names.specs.declared.meanings.Meaning.TheVariants.{SortName, Variable, Function, Shared, Hypothesis}
use Rattle.alg_names.specs.declared.scope.Scope.{Scope}
use Rattle.alg_names.specs.InForce.{meaning, has, supports}
use Rattle.alg_elaborate.specs.declared.causes.Cause.{Cause}
use Rattle.alg_elaborate.specs.declared.causes.Cause.TheVariants.{UnknownName, SortMismatch, NoInstance, BadCombination, LiteralTooWide}
use Rattle.alg_elaborate.specs.Raw.{Raw, Raws, literal, named, negation, reciprocal, operation, applied, of_sort, none, more, count}
use Rattle.alg_elaborate.specs.Meanings.{type_of, argument_sorts}
use Rattle.alg_elaborate.specs.Regions.{exponent_sort, sort_or}
use Rattle.alg_law.specs.Combinations.{difference_of, quotient_of}
use Rattle.alg_elaborate.specs.Operations.{power_of, multiple_of}
use Rattle.alg_elaborate.specs.Combinations.{misuses}

abbrev pub when : Bool → Cause → List Cause
when true c = c ∷ []
when false c = []

-- a symbol that the sort hasn't
abbrev pub lacks : Scope → Sym → Sort → List Cause
lacks s f k = when (not (supports s f k)) NoInstance

-- a literal that is too great, or that the sort hasn't
abbrev pub literal_faults : Scope → Sort → ℕ → List Cause
literal_faults s k n = when (not (nat_lt n (2 ^ 127))) LiteralTooWide ++ when (not (has s k (literal_class n))) NoInstance

-- a power or a multiple, where the exponent or the left part has a sort for which there is one
abbrev pub lacks_by : Scope → Sort → Sym → Sort → List Cause
lacks_by s l f k = when (is_integral l && not (supports s f k)) NoInstance

-- a sort that is neither ℕ nor ℤ
abbrev pub not_integral : Sort → List Cause
not_integral l = when (not (is_integral l)) SortMismatch

-- a sort that isn't the region's
abbrev pub differs : Sort → Sort → List Cause
differs k l = when (not (sort_same k l)) SortMismatch

-- a hypothesis stands only where hypotheses are combined, and then it has to be an equation of the region's sort
abbrev pub hypothesis_faults : Bool → Sort → Rel → Sort → List Cause
hypothesis_faults true k r l = when (not (rel_same r Eq && sort_same k l)) BadCombination
hypothesis_faults false k r l = SortMismatch ∷ []

abbrev pub name_faults : Bool → Sort → Option Meaning → List Cause
name_faults c k None = UnknownName ∷ []
name_faults c k (Some (SortName l)) = SortMismatch ∷ []
name_faults c k (Some (Variable d l)) = differs k l
name_faults c k (Some (Function f ls l)) = SortMismatch ∷ []
name_faults c k (Some (Shared f n)) = SortMismatch ∷ []
name_faults c k (Some (Hypothesis n r l)) = hypothesis_faults c k r l

abbrev pub sort_name_faults : Sort → Option Meaning → List Cause
sort_name_faults k None = UnknownName ∷ []
sort_name_faults k (Some (SortName l)) = differs k l
sort_name_faults k (Some (Variable d l)) = SortMismatch ∷ []
sort_name_faults k (Some (Function f ls l)) = SortMismatch ∷ []
sort_name_faults k (Some (Shared f n)) = SortMismatch ∷ []
sort_name_faults k (Some (Hypothesis n r l)) = SortMismatch ∷ []

-- the faults of an application to n arguments
abbrev pub applied_faults : Scope → Sort → Option Meaning → ℕ → List Cause
applied_faults s k None n = UnknownName ∷ []
applied_faults s k (Some (SortName l)) n = SortMismatch ∷ []
applied_faults s k (Some (Variable d l)) n = SortMismatch ∷ []
applied_faults s k (Some (Function f ls l)) n = when (not (nat_eq n (length ls))) SortMismatch ++ differs k l
applied_faults s k (Some (Shared f m)) n = when (not (nat_eq n m)) SortMismatch ++ lacks s f k
applied_faults s k (Some (Hypothesis m r l)) n = SortMismatch ∷ []

-- where hypotheses are combined, a node that is no proof of parts that are
abbrev pub miscombines : Scope → Bool → Raw → List Cause
miscombines s c t = when (c && misuses s t) BadCombination

-- The faults of an expression in a region of the sort k. The flag says whether hypotheses are combined.
abbrev mutual
  pub faults : Scope → Bool → Sort → Raw → List Cause
  faults s c k (literal n) = literal_faults s k n
  faults s c k (named x) = name_faults c k (meaning s x)
  faults s c k (negation a) = lacks s sym.Neg k ++ faults s c k a
  faults s c k (reciprocal a) = lacks s sym.Inv k ++ (miscombines s c (reciprocal a) ++ faults s c k a)
  faults s c k (operation Add a b) = lacks s sym.Add k ++ (miscombines s c (operation Add a b) ++ (faults s c k a ++ faults s c k b))
  faults s c k (operation Sub a b) = lacks s (difference_of k) k ++ (miscombines s c (operation Sub a b) ++ (faults s c k a ++ faults s c k b))
  faults s c k (operation Mul a b) = lacks s sym.Mul k ++ (miscombines s c (operation Mul a b) ++ (faults s c k a ++ faults s c k b))
  faults s c k (operation Div a b) = lacks s (quotient_of k) k ++ (miscombines s c (operation Div a b) ++ (faults s c k a ++ faults s c k b))
  faults s c k (operation Mod a b) = lacks s sym.Mod k ++ (miscombines s c (operation Mod a b) ++ (faults s c k a ++ faults s c k b))
  faults s c k (operation Smul e a) =
      lacks_by s (exponent_sort s e) (multiple_of (exponent_sort s e)) k
      ++ (miscombines s c (operation Smul e a) ++ ((not_integral (exponent_sort s e) ++ faults s c (exponent_sort s e) e) ++ faults s c k a))
  faults s c k (operation Pow a e) =
      lacks_by s (exponent_sort s e) (power_of (exponent_sort s e)) k
      ++ (miscombines s c (operation Pow a e) ++ (faults s c k a ++ (not_integral (exponent_sort s e) ++ faults s c (exponent_sort s e) e)))
  faults s c k (applied f us) = applied_faults s k (meaning s f) (count us) ++ (miscombines s c (applied f us) ++ faults_of_each s c us (argument_sorts k (meaning s f)))
  faults s c k (of_sort a x) = sort_name_faults k (meaning s x) ++ (miscombines s c (of_sort a x) ++ faults s c (sort_or k (type_of (meaning s x))) a)

  -- the arguments, each of its own sort
  pub faults_of_each : Scope → Bool → Raws → List Sort → List Cause
  faults_of_each s c none ks = []
  faults_of_each s c (more a us) [] = []
  faults_of_each s c (more a us) (k ∷ ks) = faults s c k a ++ faults_of_each s c us ks

abbrev pub first : List Cause → Option Cause
first [] = None
first (c ∷ cs) = Some c
