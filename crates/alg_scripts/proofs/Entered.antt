-- The entry of a valid proof is of the grammar of certificates.
use Rattle.std.proofs.Common.{◌≡◌, ℕ, ◌<◌, ◌≤◌, List, [], ◌∷◌, length, Option, Some, None, sym, subst, arith}
use Rattle.std.specs.Prelude.{IfSome}
use Rattle.std.specs.Option.{option_map}
use Rattle.std.specs.Global.{Vec}
use Rattle.alg_terms.specs.declared.sorts.Sort.{Sort}
use Rattle.alg_terms.specs.Tree.{Tree, Statement}
use Rattle.alg_expr.specs.declared.ids.Stmt.{Stmt}
use Rattle.alg_expr.specs.Ids.{statement_of, IsStatementIn}
use Rattle.alg_law.specs.Declarations.{Declaration, Carrier, Instance, Variable, Function, Hypothesis}
use Rattle.alg_law.specs.WellSorted.{IsStatement}
use Rattle.alg_proof.specs.Steps.{Theory, Step}
use Rattle.alg_proof.specs.Valid.{IsValid}
use Rattle.alg_lemma.specs.Lemmas.{lemma_table}
use Rattle.alg_law.specs.Rows.{Row}
use Rattle.alg_certificate.specs.Numbers.{max_number}
use Rattle.alg_certificate.specs.Spelling.{HasOne, StatementHasSpelling}
use Rattle.alg_certificate.specs.InRange.{StatementInRange}
use Rattle.alg_certificate_lines.specs.Arguments.{HasArgument, HaveArguments}
use Rattle.alg_certificate_lines.proofs.SpellingLaws.{statement_spelled, steps_spelled}
use Rattle.alg_kernel.specs.Claims.{claim_of}
use Rattle.alg_show.specs.ReadingBack.{IsWritable, AllWritable}
use Rattle.alg_report.specs.Certificate.{theory_for, claims, MayBeGiven}
use Rattle.alg_scripts.specs.Fates.{IsEntryFor, IsWritten, MayNumber}

-- declarations that can be written
one_at_least : (ss : List Sort) → 0 < length ss → HasOne ss
one_at_least [] h = absurd (omega arith)
one_at_least (s ∷ ss) h = tt

has_argument : (d : Declaration) → IsWritable d → HasArgument d
has_argument (Carrier n) h = tt
has_argument (Instance k c) h = tt
has_argument (Variable n s) h = tt
has_argument (Function n ss s) h = one_at_least ss h.1
has_argument (Hypothesis n h') h = tt

pub have_arguments : (ds : List Declaration) → AllWritable ds → HaveArguments ds
have_arguments [] h = tt
have_arguments (d ∷ ds) h = (has_argument d h.0, have_arguments ds h.1)

given_spelled : (ds : List Declaration) (given : Option Statement) → HaveArguments ds → IfSome given (MayBeGiven ds) → IfSome given StatementInRange → IfSome given StatementHasSpelling
given_spelled ds None full may range = tt
given_spelled ds (Some s) full may range = statement_spelled ds s full may.sorted range

-- the entry that was written, where one is wanted
spelled_entry : (number : Option ℕ) (ds : List Declaration) (given : Option Statement) (goal : Statement) (steps : List Step) (o : Option (Vec ℕ)) → MayNumber number → HaveArguments ds → length ds ≤ max_number → length steps ≤ max_number
    → IfSome given (MayBeGiven ds) → IsValid (theory_for (claims ds given goal)) steps goal → IsWritten number given steps o → IsEntryFor number (claims ds given goal) o
spelled_entry None ds given goal steps o may full few short kept valid written = tt
spelled_entry (Some number) ds given goal steps None may full few short kept valid written = absurd written
spelled_entry (Some number) ds given goal steps (Some bytes) may full few short kept valid written = record {
  steps = steps;
  valid = valid;
  given = kept;
  numbered = may;
  given_spelled = given_spelled ds given full kept written.1;
  steps_spelled = steps_spelled (theory_for (claims ds given goal)) steps goal full few short written.0 valid;
  spelled = written.2;
}

over_library : (th : Theory) (steps : List Step) (goal : Statement) → th.lemmas ≡ lemma_table → IsValid th steps goal → IsValid (theory_for (claims th.declarations th.given goal)) steps goal
over_library th steps goal e v = subst (λ (ls : List Row). IsValid (record { declarations = th.declarations; lemmas = ls; given = th.given }) steps goal) e v

pub entry_is : (number : Option ℕ) (th : Theory) (base : List Declaration) (given : Option Statement) (goal : Statement) (steps lines : List Step) (o : Option (Vec ℕ)) → MayNumber number → HaveArguments th.declarations → base ≡ th.declarations
    → length base ≤ max_number → th.lemmas ≡ lemma_table → IfSome th.given (MayBeGiven th.declarations) → IsValid th steps goal → lines ≡ steps → length lines ≤ max_number → given ≡ th.given → IsWritten number given lines o
    → IsEntryFor number (claims th.declarations th.given goal) o
entry_is number th base given goal steps lines o may full is few lemmas kept valid same short same_given written =
    let over_steps : IsValid (theory_for (claims th.declarations th.given goal)) steps goal = over_library th steps goal lemmas valid in
    let over_lines : IsValid (theory_for (claims th.declarations th.given goal)) lines goal = subst (λ (ls : List Step). IsValid (theory_for (claims th.declarations th.given goal)) ls goal) (sym same) over_steps in
    spelled_entry number th.declarations th.given goal lines o may full (subst (λ (es : List Declaration). length es ≤ max_number) is few) short kept over_lines
    (subst (λ (g : Option Statement). IsWritten number g lines o) same_given written)

pub same_claim : (base ds : List Declaration) (ts us : List Tree) (given : Option Stmt) (g : Option Statement) (goal : Stmt) → base ≡ ds → ts ≡ us → option_map (statement_of ts) given ≡ g → claim_of base ts given goal ≡ claims ds g (statement_of us goal)
same_claim base ds ts us given g goal e f h = λ i. record { declarations = e i; given = h i; goal = statement_of (f i) goal }

-- what is given is of the arena
pub given_in : (ds : List Declaration) (ts : List Tree) (given : Option Stmt) → IfSome given (λ s. IsStatementIn ts s × IsStatement ds (statement_of ts s)) → IfSome given (IsStatementIn ts)
given_in ds ts None h = tt
given_in ds ts (Some s) h = h.0
