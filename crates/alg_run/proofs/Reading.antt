-- A text that was read tells what is seen of its file.
use Rattle.std.proofs.Common.{◌≡◌, ℕ, List, refl, subst}
use Rattle.std.specs.Prelude.{Bool, Option, Result, IfOk, IsTrue, ◌↔◌}
use Rattle.std.specs.Str.{IsUtf8}
use Rattle.alg_host.specs.Host as host
use Rattle.alg_law.specs.Declarations.{Declaration}
use Rattle.alg_parse.specs.declared.file_trees.FileTree.{FileTree}
use Rattle.alg_parse.specs.FileTrees.{IsRead}
use Rattle.alg_parse.specs.Told.{Told}
use Rattle.alg_steps.specs.Stepped.{Steps}
use Rattle.alg_report.specs.Plan.{Did, Event, plan_over}
use Rattle.alg_report.specs.Report.{Finding, findings_of, IsAllClosed}
use Rattle.alg_report.specs.Seen.{seen_of}
use Rattle.alg_report.proofs.Seeing.{read_tells}
use Rattle.alg_run.specs.Work.{DidRead}
use Rattle.alg_run.specs.declared.events.Stop.{Stop}

plan_same : (cert : Option (List ℕ)) (aloud : Bool) (f : Steps) (ds es : List Declaration) (told seen : List Told) → ds ≡ es → told ≡ seen → plan_over cert aloud ds (findings_of f ds seen) ≡ plan_over cert aloud es (findings_of f es told)
plan_same cert aloud f ds es told seen e h = rw (e, h) refl

findings_same : (f : Steps) (ds es : List Declaration) (told seen : List Told) → ds ≡ es → told ≡ seen → findings_of f ds seen ≡ findings_of f es told
findings_same f ds es told seen e h = rw (e, h) refl

pub did_read : (f : Steps) (cert : Option (List ℕ)) (aloud : Bool) (text : List ℕ) (file : FileTree) (a b : Option host.Told) (r : Result Bool Stop) → IsUtf8 text → IsRead text file
    → Did a b (plan_over cert aloud file.shared (findings_of f file.shared (seen_of file))) r → IfOk r (λ all. IsTrue all ↔ IsAllClosed (findings_of f file.shared (seen_of file))) → DidRead f cert aloud text a b r
did_read f cert aloud text file a b r utf8 read did closed =
    let same : read.told ≡ seen_of file = read_tells text file read in
    record {
      utf8 = utf8;
      told = read.told;
      tells = read.tells;
      did = subst (λ (plan : List Event). Did a b plan r) (plan_same cert aloud f file.shared read.tells.end.shared read.told (seen_of file) read.shared same) did;
      closed = subst (λ (fs : List Finding). IfOk r (λ all. IsTrue all ↔ IsAllClosed fs)) (findings_same f file.shared read.tells.end.shared read.told (seen_of file) read.shared same) closed;
    }
