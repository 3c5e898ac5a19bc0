-- Good lines are accepted, where the last concludes the goal, and what they conclude is derivable.
use Rattle.std.specs.Prelude.{◌≡◌, suc, ◌-◌, List, [], ◌∷◌, ◌++◌, length, Some, slice_get}
use Rattle.std.proofs.Common.{refl, ap, sym, ◌∙◌, arith, append-nil, append_assoc}
use Rattle.alg_terms.specs.Tree.{Statement}
use Rattle.alg_terms.proofs.OrderLaws.{tree_same-self, sort_same-self, rel_same-self}
use Rattle.alg_proof.specs.Steps.{Theory, Step}
use Rattle.alg_proof.specs.Causes.{line_at}
use Rattle.alg_proof.specs.Valid.{verdict, verdict_from, go_on, ends_in, Accepted}
use Rattle.alg_proof.specs.Admissible.{IsTheory, AllFine}
use Rattle.alg_proof.proofs.Admissible.{AllFine-push, conclude-fine}
use Rattle.alg_build.specs.Good.{AreGood, none, one_more}

from_good : (th : Theory) (steps : List Step) (done : List Statement) (more : List Step) (goal : Statement) → AreGood th steps done → verdict_from th [] (steps ++ more) goal ≡ verdict_from th done more goal
from_good th _ _ more goal none = refl
from_good th _ _ more goal (one_more steps done l s h e) =
    rw (append_assoc steps (l ∷ []) more) (from_good th steps done (l ∷ more) goal h ∙ ap (λ r. go_on (suc (length done)) r (λ t. verdict_from th (done ++ t ∷ []) more goal)) e)

ends_same : (s : Statement) → ends_in (Some s) s ≡ Accepted
ends_same s = rw (rel_same-self s.rel, sort_same-self s.sort, tree_same-self s.lhs, tree_same-self s.rhs) refl

last : (s : Statement) (done : List Statement) → line_at done (length done) ≡ Some s → ends_in (slice_get done (length done - 1)) s ≡ Accepted
last s [] e = cc
last s (d ∷ ds) e =
    let n : suc (length ds) - 1 ≡ length ds = omega arith in
    rw (n, e) (ends_same s)

pub good_accepted : (th : Theory) (steps : List Step) (done : List Statement) (s : Statement) → AreGood th steps done → line_at done (length done) ≡ Some s → verdict th steps s ≡ Accepted
good_accepted th steps done s h e =
    ap (λ ls. verdict th ls s) (sym (append-nil steps)) ∙ from_good th steps done [] s h ∙ last s done e

-- conclusions of good lines are well sorted and derivable
pub good_fine : (th : Theory) (steps : List Step) (done : List Statement) → IsTheory th → AreGood th steps done → AllFine th.declarations th.given done
good_fine th _ _ sound none = tt
good_fine th _ _ sound (one_more steps done l s h e) =
    let f = good_fine th steps done sound h in
    AllFine-push th.declarations th.given done s f (conclude-fine th sound done l s f e)
