-- The lines of a valid proof are meant as they stand.
use Rattle.std.specs.Prelude.{◌≡◌, ℕ, suc, ◌≤◌, ◌^◌, List, [], ◌∷◌, ◌++◌, length, Ok, Err, refl}
use Rattle.std.proofs.Common.{ap}
use Rattle.alg_terms.specs.Tree.{Statement}
use Rattle.alg_law.specs.Declarations.{Declaration}
use Rattle.alg_law.specs.declared.marks.Mark.TheVariants.{Good}
use Rattle.alg_proof.specs.Causes.{Concludes}
use Rattle.alg_proof.proofs.InstanceLaws.{only_good-ok}
use Rattle.alg_proof.specs.Steps.{Theory, Step, step_mark, conclude_named, conclude}
use Rattle.alg_proof.specs.Valid.{Verdict, Accepted, go_on, verdict_from, IsValid}
use Rattle.alg_certificate_lines.proofs.ReadBackLaws.{step_back}
use Rattle.alg_check.specs.Meant.{with_cause, meant}
use Rattle.alg_check.specs.Certified.{AreMeant}

good_meant : (ds : List Declaration) (l : Step) → length ds ≤ 2 ^ 32 → step_mark ds l ≡ Good → meant ds l ≡ Ok l
unfolding meant
good_meant ds l few good = ap with_cause (step_back ds l few good)

-- a line that was gone on from concludes something
went_on : (n : ℕ) (r : Concludes) (k : Statement → Verdict) → go_on n r k ≡ Accepted → (s : Statement) × (r ≡ Ok s) × (k s ≡ Accepted)
went_on n (Ok s) k e = (s, refl, e)
went_on n (Err c) k e = absurd (cc)

all_meant : (th : Theory) (done : List Statement) (ls : List Step) (goal : Statement) → length th.declarations ≤ 2 ^ 32 → verdict_from th done ls goal ≡ Accepted → AreMeant th.declarations ls ls
all_meant th done [] goal few e = tt
all_meant th done (l ∷ ls) goal few e =
    let went = went_on (suc (length done)) (conclude th done l) (λ s. verdict_from th (done ++ s ∷ []) ls goal) e in
    let good = only_good-ok (step_mark th.declarations l) (conclude_named th done l) went.0 went.1 in
    (good_meant th.declarations l few good.0, all_meant th (done ++ went.0 ∷ []) ls goal few went.2)

-- each line of a valid proof is meant as itself
pub valid_meant : (th : Theory) (ls : List Step) (goal : Statement) → length th.declarations ≤ 2 ^ 32 → IsValid th ls goal → AreMeant th.declarations ls ls
valid_meant th ls goal few valid = all_meant th [] ls goal few valid
