-- What each procedure of the table answers.
use Rattle.std.specs.Prelude.{None, List}
use Rattle.alg_terms.specs.Tree.{Statement}
use Rattle.alg_law.specs.Declarations.{Declaration}
use Rattle.alg_binders.specs.declared.procedures.Procedure.{Procedure}
use Rattle.alg_binders.specs.declared.procedures.Procedure.TheVariants.{NormNum}
use Rattle.alg_parse.specs.Told.{plain, combination}
use Rattle.alg_exts.specs.Covers.{Cover}
use Rattle.alg_normnum.specs.Answer.{norm_num_answer}
use Rattle.alg_steps.specs.declared.answers.StepFault.TheVariants.{NotBuilt}
use Rattle.alg_steps.specs.Stepped.{Stepped, fails, with_note, Steps}

-- only norm_num is built
abbrev pub named_step : Cover → List Declaration → Procedure → Statement → Stepped
named_step cover ds NormNum s = with_note None (norm_num_answer cover.covers ds s)
named_step cover ds _ s = fails NotBuilt

-- by what the extensions cover, the declarations, the call and the goal
abbrev pub table_step : Cover → Steps
table_step cover ds (plain p) s = named_step cover ds p s
table_step cover ds (combination c) s = fails NotBuilt
