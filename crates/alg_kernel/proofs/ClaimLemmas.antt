-- What was checked without a given statement holds at the integers.
use Rattle.std.proofs.Common.{◌≡◌, List, Option, Some, None, Result, Ok, Err, OnOk, refl, ap, subst}
use Rattle.std.specs.Prelude.{option_map}
use Rattle.alg_terms.specs.Tree.{Tree, Statement}
use Rattle.alg_expr.specs.declared.ids.Stmt.{Stmt}
use Rattle.alg_expr.specs.Ids.{statement_of, IsStatementIn}
use Rattle.alg_expr.specs.Arena.{Extends}
use Rattle.alg_expr.proofs.ArenaLaws.{statement_of-extends}
use Rattle.alg_law.specs.Declarations.{Declaration}
use Rattle.alg_law.specs.Following.{IsWellFormed}
use Rattle.alg_law.specs.Derivations.{Derivable}
use Rattle.alg_law.proofs.NoFalseLaw.{derivable-true}
use Rattle.alg_proof.specs.Steps.{Step}
use Rattle.alg_proof.specs.Valid.{verdict}
use Rattle.alg_proof.specs.Admissible.{IsTheory}
use Rattle.alg_kernel.specs.declared.answers.Checked.{Checked}
use Rattle.alg_kernel.specs.declared.answers.Refusal.{Refusal}
use Rattle.alg_kernel.specs.declared.grounds.Grounds.{Grounds}
use Rattle.alg_kernel.specs.declared.kernel.Kernel.{Kernel}
use Rattle.alg_kernel.specs.Answers.{GivesVerdict}
use Rattle.alg_kernel.specs.Claims.{claim_of, HoldsWithoutGiven}
use Rattle.alg_kernel.specs.Progress.{outcome}
use Rattle.alg_kernel.specs.State.{theory_of, IsGivenIn, progress_of, IsSound, IsFresh}
use Rattle.alg_kernel.proofs.KernelLemmas.{finish-derivable, accept-derivable}

pub derivable-holds : (ds : List Declaration) (given : Option Statement) (goal : Statement) → IsWellFormed ds → Derivable ds given goal → HoldsWithoutGiven ds given goal
derivable-holds ds given goal h d none = derivable-true ds h goal (subst (λ (o : Option Statement). Derivable ds o goal) none d)

holds-on_ok : {E : Type 0} (ds : List Declaration) (given : Option Statement) (goal : Statement) (r : Result Checked E) → IsWellFormed ds → OnOk r (Derivable ds given goal) → OnOk r (HoldsWithoutGiven ds given goal)
holds-on_ok ds given goal (Ok c) h d = derivable-holds ds given goal h d
holds-on_ok ds given goal (Err e) h d = tt

pub finish-holds : (ts : List Tree) (k : Kernel) (goal : Statement) (r : Result Checked Refusal) → IsSound ts k → GivesVerdict r (outcome (progress_of ts k) goal) → OnOk r (HoldsWithoutGiven k.grounds.base.now (option_map (statement_of ts) k.grounds.given) goal)
finish-holds ts k goal r h v = holds-on_ok k.grounds.base.now (option_map (statement_of ts) k.grounds.given) goal r h.theory.well_formed (finish-derivable ts k goal r h v)

pub accept-holds : (g : Grounds) (t0 t1 : List Tree) (k k1 : Kernel) → IsFresh g k → (steps : List Step) (goal : Statement) (r : Result Checked Refusal) → IsGivenIn g.base.now t0 g.given → GivesVerdict r (verdict (theory_of t0 g) steps goal)
    → OnOk r (HoldsWithoutGiven g.base.now (option_map (statement_of t0) g.given) goal)
accept-holds g t0 t1 k k1 fresh steps goal r h v =
    let sound : IsSound t0 k = fresh.sound t0 h in
    let theory : IsTheory (theory_of t0 g) = subst (λ (x : Grounds). IsTheory (theory_of t0 x)) fresh.grounds sound.theory in
    holds-on_ok g.base.now (option_map (statement_of t0) g.given) goal r theory.well_formed (accept-derivable g t0 t1 k k1 fresh steps goal r h v)

given-same : (ds : List Declaration) (old new : List Tree) (given : Option Stmt) → Extends old new → IsGivenIn ds old given → option_map (statement_of new) given ≡ option_map (statement_of old) given
given-same ds old new None x g = refl
given-same ds old new (Some s) x g = ap Some (statement_of-extends old new s x g.0)

-- a claim stays the same as the arena grows
pub claim_of-extends : (ds : List Declaration) (old new : List Tree) (given : Option Stmt) (goal : Stmt) → Extends old new → IsGivenIn ds old given → IsStatementIn old goal → claim_of ds new given goal ≡ claim_of ds old given goal
claim_of-extends ds old new given goal x g h =
    let p : option_map (statement_of new) given ≡ option_map (statement_of old) given = given-same ds old new given x g in
    let q : statement_of new goal ≡ statement_of old goal = statement_of-extends old new goal x h in
    λ i. record { declarations = ds; given = p i; goal = q i }
