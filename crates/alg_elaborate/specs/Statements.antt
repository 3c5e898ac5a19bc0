-- Statements: their sort, their faults and what they say.
use Rattle.std.specs.Prelude.{List, ◌++◌, Bool, true, false, not}
use Rattle.alg_terms.specs.declared.sorts.Sort.{Sort}
use Rattle.alg_terms.specs.declared.sorts.Sort.TheVariants.{Nat}
use Rattle.alg_terms.specs.declared.relations.Rel.{Rel}
use Rattle.alg_terms.specs.declared.relations.Rel.TheVariants as rel
use Rattle.alg_terms.specs.Tree as terms
use Rattle.alg_syntax.specs.declared.signs.Relation.{Relation}
use Rattle.alg_syntax.specs.declared.signs.Relation.TheVariants.{Eq, Ne, Lt, Le, Gt, Ge, Dvd}
use Rattle.alg_syntax.specs.declared.statements.Statement.{Statement}
use Rattle.alg_names.specs.declared.scope.Scope.{Scope}
use Rattle.alg_names.specs.InForce.{relates}
use Rattle.alg_elaborate.specs.declared.causes.Cause.{Cause}
use Rattle.alg_elaborate.specs.declared.causes.Cause.TheVariants.{NoInstance}
use Rattle.alg_elaborate.specs.Raw.{meant}
use Rattle.alg_elaborate.specs.Regions.{leaves, first_known, sort_or}
use Rattle.alg_elaborate.specs.Faults.{when, faults}
use Rattle.alg_elaborate.specs.TypedTrees.{typed}

-- `>` is `<` and `≥` is `≤`, with the sides exchanged
abbrev pub relation_of : Relation → Rel
relation_of Eq = rel.Eq
relation_of Ne = rel.Ne
relation_of Lt = rel.Lt
relation_of Le = rel.Le
relation_of Gt = rel.Lt
relation_of Ge = rel.Le
relation_of Dvd = rel.Dvd

abbrev pub exchanges : Relation → Bool
exchanges Eq = false
exchanges Ne = false
exchanges Lt = false
exchanges Le = false
exchanges Gt = true
exchanges Ge = true
exchanges Dvd = false

-- both sides are one region
abbrev pub statement_sort : Scope → Statement → Sort
statement_sort s p = sort_or Nat (first_known s (leaves s (meant p.lhs) ++ leaves s (meant p.rhs)))

abbrev pub relation_faults : Scope → Sort → Relation → List Cause
relation_faults s k r = when (not (relates s (relation_of r) k)) NoInstance

-- the faults in a region of the sort k: the relation, then the sides in the order of the text
abbrev pub statement_faults_in : Scope → Sort → Statement → List Cause
statement_faults_in s k p = relation_faults s k p.relation ++ (faults s false k (meant p.lhs) ++ faults s false k (meant p.rhs))

abbrev pub statement_faults : Scope → Statement → List Cause
statement_faults s p = statement_faults_in s (statement_sort s p) p

abbrev pub ordered : Bool → Rel → Sort → terms.Tree → terms.Tree → terms.Statement
ordered true r k a b = record { rel = r; sort = k; lhs = b; rhs = a }
ordered false r k a b = record { rel = r; sort = k; lhs = a; rhs = b }

abbrev pub typed_statement_in : Scope → Sort → Statement → terms.Statement
typed_statement_in s k p = ordered (exchanges p.relation) (relation_of p.relation) k (typed s k (meant p.lhs)) (typed s k (meant p.rhs))

-- what a statement without a fault says
abbrev pub typed_statement : Scope → Statement → terms.Statement
typed_statement s p = typed_statement_in s (statement_sort s p) p
