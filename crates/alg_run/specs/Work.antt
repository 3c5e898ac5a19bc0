-- The work on a text.
use Rattle.std.specs.Prelude.{◌≡◌, ◌⊎◌, ◌↔◌, ℕ, List, Option, Bool, Result, Err, IfOk, IsTrue}
use Rattle.std.specs.Str.{IsUtf8}
use Rattle.alg_host.specs.Host.{Told}
use Rattle.alg_parse.specs.Told as parsed
use Rattle.alg_parse.specs.FileTrees.{Tells}
use Rattle.alg_steps.specs.Stepped.{Steps}
use Rattle.alg_report.specs.Report.{findings_of, IsAllClosed}
use Rattle.alg_report.specs.Plan.{Did, plan_over}
use Rattle.alg_run.specs.declared.events.Stop.{Stop}
use Rattle.alg_run.specs.declared.events.Stop.TheVariants.{Memory}

-- the text was read, and a beginning of the plan was done, all of it where the answer is Ok
pub record DidRead (f : Steps) (cert : Option (List ℕ)) (aloud : Bool) (text : List ℕ) (before now : Option Told) (result : Result Bool Stop) : Type 0 where
  pub utf8 : IsUtf8 text
  pub told : List parsed.Told
  pub tells : Tells text told
  pub did : Did before now (plan_over cert aloud tells.end.shared (findings_of f tells.end.shared told)) result
  pub closed : IfOk result (λ all. IsTrue all ↔ IsAllClosed (findings_of f tells.end.shared told))

-- the same, or nothing was done for want of memory
abbrev pub DidText : (f : Steps) (cert : Option (List ℕ)) (aloud : Bool) (text : List ℕ) (before now : Option Told) → Result Bool Stop → Type 0
DidText f cert aloud text before now result = DidRead f cert aloud text before now result ⊎ ((result ≡ Err Memory) × (now ≡ before))
