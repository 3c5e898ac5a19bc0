-- What the procedures of the trial answer.
use Rattle.std.specs.Prelude.{Some, None}
use Rattle.alg_terms.specs.declared.sorts.Sort.{Sort}
use Rattle.alg_terms.specs.declared.sorts.Sort.TheVariants.{Nat, Int, Rat, Decl}
use Rattle.alg_terms.specs.Tree.{Statement, Lit, sum_tree}
use Rattle.alg_binders.specs.declared.procedures.Procedure.{Procedure}
use Rattle.alg_binders.specs.declared.procedures.Procedure.TheVariants.{Ring, Ring1, RingNf, Abel}
use Rattle.alg_parse.specs.Told.{plain, combination}
use Rattle.alg_build.specs.Answer.{Answer, Fails}
use Rattle.alg_build.specs.declared.outcome.TacFault.TheVariants.{WrongStructure}
use Rattle.alg_ends.specs.CommonEnd.{common_end}
use Rattle.alg_exts.specs.Covers.{Cover}
use Rattle.alg_steps.specs.declared.notes.Note.TheVariants as note
use Rattle.alg_steps.specs.declared.answers.StepFault.TheVariants.{NotBuilt}
use Rattle.alg_steps.specs.Stepped.{Stepped, fails, with_note, Steps}

-- closed where the sides are one tree, else no change
abbrev pub kept_answer : Statement → Answer
kept_answer s = common_end s s.lhs s.rhs

-- 0 is added to the left side, in ℕ alone
abbrev pub zero_added : Sort → Statement → Answer
zero_added Nat s = common_end s (sum_tree Nat (Lit Nat 0) s.lhs) s.rhs
zero_added Int s = Fails WrongStructure
zero_added Rat s = Fails WrongStructure
zero_added (Decl k) s = Fails WrongStructure

abbrev pub zero_answer : Statement → Answer
zero_answer s = zero_added s.sort s

abbrev pub trial_named : Procedure → Statement → Stepped
trial_named Ring1 s = with_note None (kept_answer s)
trial_named Ring s = with_note (Some note.RingNf) (kept_answer s)
trial_named RingNf s = with_note None (zero_answer s)
trial_named Abel s = with_note (Some note.AbelNf) (zero_answer s)
trial_named _ s = fails NotBuilt

abbrev pub trial_step : Cover → Steps
trial_step cover ds (plain p) s = trial_named p s
trial_step cover ds (combination c) s = fails NotBuilt
