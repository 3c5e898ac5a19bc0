-- Conclusions, and the causes for which there is none.
use Rattle.std.specs.Prelude.{ℕ, zero, suc, ◌^◌, Bool, true, false, ◌&&◌, nat_lt, List, [], ◌∷◌, Option, Some, None, Result, Err, slice_get}
use Rattle.alg_terms.specs.declared.relations.Rel.{Rel}
use Rattle.alg_terms.specs.declared.relations.Rel.TheVariants.{Eq, Ne, Lt, Le, Dvd}
use Rattle.alg_terms.specs.declared.causes.BadCause.{BadCause}
use Rattle.alg_terms.specs.declared.causes.BadCause.TheVariants as cause
use Rattle.alg_terms.specs.Tree.{Statement}
use Rattle.alg_terms.specs.Order.{tree_same, sort_same, rel_same}
use Rattle.alg_law.specs.declared.marks.Mark.{Mark}
use Rattle.alg_law.specs.declared.marks.Mark.TheVariants.{Good, NoInstance, BadSort, BadName}

-- a conclusion, or the cause for which there is none
abbrev pub Concludes : Type 0
Concludes = Result Statement BadCause

-- goes on with a value, or has this cause
abbrev pub or_cause : {A B : Type 0} → Option A → BadCause → (A → Result B BadCause) → Result B BadCause
or_cause None c k = Err c
or_cause (Some x) c k = k x

-- goes on where the test holds, or has this cause
abbrev pub only_if : {B : Type 0} → Bool → BadCause → Result B BadCause → Result B BadCause
only_if true c r = r
only_if false c r = Err c

-- goes on where the mark is good, or has its cause
abbrev pub only_good : {B : Type 0} → Mark → Result B BadCause → Result B BadCause
only_good Good r = r
only_good NoInstance r = Err cause.NoInstance
only_good BadSort r = Err cause.Sort
only_good BadName r = Err cause.Name

-- what stands at a line, counted from 1
abbrev pub line_at : {X : Type 0} → List X → ℕ → Option X
line_at done zero = None
line_at done (suc i) = slice_get done i

-- the first before the others, if all are there
abbrev pub join : Option Statement → Option (List Statement) → Option (List Statement)
join None o = None
join (Some s) None = None
join (Some s) (Some ss) = Some (s ∷ ss)

-- the statements of earlier lines, if all are there
abbrev pub statements_at : List Statement → List ℕ → Option (List Statement)
statements_at done [] = Some []
statements_at done (i ∷ is) = join (line_at done i) (statements_at done is)

abbrev pub is_eq_rel : Rel → Bool
is_eq_rel Eq = true
is_eq_rel Ne = false
is_eq_rel Lt = false
is_eq_rel Le = false
is_eq_rel Dvd = false

abbrev pub is_equation : Statement → Bool
is_equation s = is_eq_rel s.rel

abbrev pub statement_same : Statement → Statement → Bool
statement_same a b = rel_same a.rel b.rel && sort_same a.sort b.sort && tree_same a.lhs b.lhs && tree_same a.rhs b.rhs

-- a literal is at most 2^127 - 1
abbrev pub is_small : ℕ → Bool
is_small n = nat_lt n (2 ^ 127)
