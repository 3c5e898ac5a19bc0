-- Entries that certify goals are accepted.
use Rattle.std.specs.Prelude.{◌≡◌, ℕ, suc, ◌+◌, ◌<◌, List, [], ◌∷◌, ◌++◌, length, true, not, Option, Some, None, Ok, Err, count_by, refl, if◌then◌else◌}
use Rattle.std.proofs.Common.{ap, ◌∙◌, subst, cond}
use Rattle.std.proofs.lemmas.Bool.{lt-ltb}
use Rattle.std.proofs.lemmas.List.Sums.{sum_by-cons}
use Rattle.alg_terms.specs.Tree.{Statement}
use Rattle.alg_law.specs.Declarations.{Declaration}
use Rattle.alg_law.specs.Rows.{Row}
use Rattle.alg_proof.specs.Causes.{Concludes, line_at}
use Rattle.alg_proof.specs.Steps.{Theory, Step, conclude}
use Rattle.alg_proof.specs.Valid.{Verdict, Accepted, go_on, verdict_from, IsValid}
use Rattle.alg_check.specs.Entries.{Entry}
use Rattle.alg_check.specs.Goals.{Goal}
use Rattle.alg_check.specs.Meant.{meant}
use Rattle.alg_check.specs.Judging.{conclude_meant, conclude_written, judged_from, judged, theory_for, answer_from, answer_over, if_given, answer_to, of_verdict}
use Rattle.alg_check.specs.Findings.{Finding, of_goal, finding_of, finding_for, findings_from, findings, accepts, is_accepted, is_refused, tally_of}
use Rattle.alg_check.specs.Certified.{AreMeant, IsMeantGiven, Proves, Certify}

same_after : (n : ℕ) (r : Concludes) (f g : Statement → Verdict) → ((s : Statement) → f s ≡ g s) → go_on n r f ≡ go_on n r g
same_after n (Ok s) f g h = h s
same_after n (Err c) f g h = refl

one_same : (th : Theory) (done : List Statement) (l k : Step) (f g : Statement → Verdict) → meant th.declarations l ≡ Ok k → ((s : Statement) → f s ≡ g s) → (n : ℕ) → go_on n (conclude_written th done l) f ≡ go_on n (conclude th done k) g
one_same th done l k f g m h n = ap (λ r. go_on n (conclude_meant th done r) f) m ∙ same_after n (conclude th done k) f g h

-- written steps come to what the steps come to that they are
pub judged-verdict_from : (th : Theory) (done : List Statement) (ls ks : List Step) (goal : Statement) → AreMeant th.declarations ls ks → judged_from th done ls goal ≡ verdict_from th done ks goal
judged-verdict_from th done [] [] goal h = refl
judged-verdict_from th done [] (k ∷ ks) goal h = absurd h
judged-verdict_from th done (l ∷ ls) [] goal h = absurd h
judged-verdict_from th done (l ∷ ls) (k ∷ ks) goal h =
    one_same th done l k (λ s. judged_from th (done ++ s ∷ []) ls goal) (λ s. verdict_from th (done ++ s ∷ []) ks goal) h.0 (λ s. judged-verdict_from th (done ++ s ∷ []) ls ks goal h.1) (suc (length done))

accepted_always : (o : Option (List ℕ)) (v : Verdict) → v ≡ Accepted → accepts (of_verdict o v) ≡ true
accepted_always None v e = ap (λ x. accepts (of_verdict None x)) e
accepted_always (Some t) v e = ap (λ x. accepts (of_verdict (Some t) x)) e

from_accepted : (rows : List Row) (ds : List Declaration) (goal : Statement) (ls ks : List Step) (given : Option Statement) → AreMeant ds ls ks → IsValid (theory_for rows ds given) ks goal → accepts (answer_from rows ds goal ls given) ≡ true
from_accepted rows ds goal ls ks given m v = accepted_always _ _ (judged-verdict_from (theory_for rows ds given) [] ls ks goal m ∙ v)

over_accepted : (rows : List Row) (ds : List Declaration) (goal : Statement) (o given : Option Statement) (ls ks : List Step) → IsMeantGiven ds o given → AreMeant ds ls ks → IsValid (theory_for rows ds given) ks goal → accepts (answer_over rows ds goal o ls) ≡ true
over_accepted rows ds goal None given ls ks i m v = from_accepted rows ds goal ls ks None m (subst (λ (x : Option Statement). IsValid (theory_for rows ds x) ks goal) i v)
over_accepted rows ds goal (Some s) given ls ks i m v =
    ap (λ o. accepts (if_given rows ds goal ls o)) i.1 ∙ from_accepted rows ds goal ls ks (Some i.0) m (subst (λ (x : Option Statement). IsValid (theory_for rows ds x) ks goal) i.2 v)

-- an entry whose lines are valid for its goal is accepted
pub proves-accepted : (rows : List Row) (g : Goal) (e : Entry) → Proves rows g e → accepts (answer_to rows g e) ≡ true
proves-accepted rows g e p = over_accepted rows g.declarations g.statement e.given p.given e.steps p.steps p.is_given p.are_meant p.valid

found : (rows : List Row) (gs : List Goal) (before : ℕ) (e : Entry) (g : Goal) → before < e.number → line_at gs e.number ≡ Some g → finding_of rows gs before e ≡ of_goal g.label (answer_to rows g e)
found rows gs before e g l h = ap (λ b. finding_for rows (if b then line_at gs e.number else None) e) (lt-ltb before e.number l) ∙ ap (λ o. finding_for rows o e) h

none_refused_from : (rows : List Row) (gs : List Goal) (before : ℕ) (es : List Entry) → Certify rows gs before es → count_by is_refused (findings_from rows gs before es) ≡ 0
none_refused_from rows gs before [] h = refl
none_refused_from rows gs before (e ∷ es) h =
    let f : Finding = finding_of rows gs before e in
    let yes : is_accepted f ≡ true = ap is_accepted (found rows gs before e h.1.0 h.0 h.1.1) ∙ proves-accepted rows h.1.0 e h.1.2 in
    sum_by-cons (λ (x : Finding). cond (is_refused x) 1 0) f (findings_from rows gs e.number es)
    ∙ (ap (λ b. cond (not b) 1 0 + count_by is_refused (findings_from rows gs e.number es)) yes ∙ ap (λ n. 0 + n) (none_refused_from rows gs e.number es h.2))

-- what certifies the goals of a file is accepted: nothing is refused
pub none_refused : (rows : List Row) (gs : List Goal) (es : List Entry) → Certify rows gs 0 es → (tally_of (findings rows gs es) None).refused ≡ 0
none_refused rows gs es h = ap (λ n. n + 0) (none_refused_from rows gs 0 es h)
