-- The work on a text, from how far its plan was reached.
use Rattle.std.proofs.Common.{ℕ, List, Bool}
use Rattle.std.specs.Prelude.{◌↔◌, Option, IsTrue}
use Rattle.std.specs.Str.{IsUtf8}
use Rattle.alg_parse.specs.Told.{Told}
use Rattle.alg_parse.specs.FileTrees.{Tells}
use Rattle.alg_steps.specs.Stepped.{Steps}
use Rattle.alg_report.specs.Effects.{Effects}
use Rattle.alg_report.specs.Report.{findings_of, IsAllClosed}
use Rattle.alg_report.specs.Plan.{AreWhole, Reached, plan_over}
use Rattle.alg_report.specs.Worked.{Whole, Begun}
use Rattle.alg_report.proofs.Reaching.{whole_reached}
use Rattle.alg_report.proofs.Telling.{all_said, all_handed, all_called, begun_said}
use Rattle.alg_report.proofs.Certifying.{all_certified}
use Rattle.alg_report.proofs.Ordering.{in_order}

pub begun_by : (f : Steps) (cert : Option (List ℕ)) (aloud : Bool) (bytes : List ℕ) (told : List Told) (tells : Tells bytes told) (d : Effects)
    → IsUtf8 bytes → Reached (plan_over cert aloud tells.end.shared (findings_of f tells.end.shared told)) d → Begun f cert aloud bytes d
begun_by f cert aloud bytes told tells d utf8 r = record {
  utf8 = utf8;
  told = told;
  tells = tells;
  reached = r;
  said = begun_said cert aloud tells.end.shared (findings_of f tells.end.shared told) d r;
  order = in_order cert aloud tells.end.shared (findings_of f tells.end.shared told) d r;
}

pub whole_by : (f : Steps) (cert : Option (List ℕ)) (aloud : Bool) (bytes : List ℕ) (told : List Told) (tells : Tells bytes told) (all : Bool) (d : Effects)
    → IsUtf8 bytes → AreWhole (plan_over cert aloud tells.end.shared (findings_of f tells.end.shared told)) d → IsTrue all ↔ IsAllClosed (findings_of f tells.end.shared told) → Whole f cert aloud bytes all d
whole_by f cert aloud bytes told tells all d utf8 w closed =
    let shared = tells.end.shared in
    let fs = findings_of f shared told in
    record {
      utf8 = utf8;
      told = told;
      tells = tells;
      whole = w;
      calls = all_called cert aloud shared fs d w;
      said = all_said cert aloud shared fs d w;
      proved = all_handed cert aloud shared fs d w;
      certified = all_certified cert aloud shared fs d w;
      closed = closed;
      order = in_order cert aloud shared fs d (whole_reached (plan_over cert aloud shared fs) d w);
    }
