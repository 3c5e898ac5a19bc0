-- What the work on a text is, and a beginning of it.
use Rattle.std.specs.Prelude.{◌≡◌, ◌↔◌, ℕ, List, Option, Bool, IsTrue}
use Rattle.std.specs.Str.{IsUtf8}
use Rattle.alg_host.specs.Host.{IsPrefix}
use Rattle.alg_parse.specs.Told.{Told}
use Rattle.alg_parse.specs.FileTrees.{Tells}
use Rattle.alg_steps.specs.Stepped.{Steps}
use Rattle.alg_report.specs.Effects.{Effects}
use Rattle.alg_report.specs.Report.{findings_of, IsAllClosed}
use Rattle.alg_report.specs.Certificate.{claims_of}
use Rattle.alg_report.specs.Plan.{AreWhole, Reached, creation_of, plan_over, text_said}
use Rattle.alg_report.specs.Order.{IsCertified, InOrder}

-- all of the work on these bytes was done: each goal as what its script makes of it, in the order of the plan
pub record Whole (f : Steps) (cert : Option (List ℕ)) (aloud : Bool) (bytes : List ℕ) (all_closed : Bool) (d : Effects) : Type 0 where
  pub utf8 : IsUtf8 bytes
  pub told : List Told
  pub tells : Tells bytes told
  pub whole : AreWhole (plan_over cert aloud tells.end.shared (findings_of f tells.end.shared told)) d
  pub calls : d.calls ≡ creation_of cert
  pub said : d.said ≡ text_said aloud tells.end.shared (findings_of f tells.end.shared told)
  pub proved : d.proved ≡ claims_of tells.end.shared (findings_of f tells.end.shared told)
  pub certified : IsCertified cert tells.end.shared (findings_of f tells.end.shared told) d
  pub closed : IsTrue all_closed ↔ IsAllClosed (findings_of f tells.end.shared told)
  -- each goal that was handed over follows from the laws, its hypotheses and, where it is open, what is left of it
  pub order : InOrder cert aloud tells.end.shared (findings_of f tells.end.shared told) d

-- a beginning of it was done
pub record Begun (f : Steps) (cert : Option (List ℕ)) (aloud : Bool) (bytes : List ℕ) (d : Effects) : Type 0 where
  pub utf8 : IsUtf8 bytes
  pub told : List Told
  pub tells : Tells bytes told
  pub reached : Reached (plan_over cert aloud tells.end.shared (findings_of f tells.end.shared told)) d
  pub said : IsPrefix d.said (text_said aloud tells.end.shared (findings_of f tells.end.shared told))
  pub order : InOrder cert aloud tells.end.shared (findings_of f tells.end.shared told) d
