use Rattle.std.proofs.Common.{◌∙◌}
use Rattle.std.specs.Prelude.{Ok, Err}
use Rattle.alg_syntax.specs.declared.commands.Unread.TheVariants.{TooDeep, Syntax}
use Rattle.alg_commands.proofs.Outcomes.{reads, only_outcome, only_fault}
use Rattle.alg_commands.proofs.readings.read_command.Goals as goal

pub returns-in-Some-clause-only : goal.returns-in-Some-clause-only
returns-in-Some-clause-only c = λ items k s h. only_fault items c.args.piece.now c.in-Some.fault s k c.in-Some.is h

pub returns-in-Ok-clause-outcome : goal.returns-in-Ok-clause-outcome
returns-in-Ok-clause-outcome c = λ items k. reads items c.args.piece.now _ _ (Ok c.in-Ok.command) k c.in_default.is c.as_slice.ensures.value c.in_ok-command.ensures.answer c.in-Ok.is

pub returns-in-Ok-clause-only : goal.returns-in-Ok-clause-only
returns-in-Ok-clause-only c = λ items k s h. only_outcome items c.args.piece.now _ (Ok c.in-Ok.command) s k c.in_default.is c.as_slice.ensures.value (λ r a. c.in_ok-command.ensures.unique r _ a c.in_ok-command.ensures.answer ∙ c.in-Ok.is) h

pub returns-in-Err-TooDeep-clause-outcome : goal.returns-in-Err-TooDeep-clause-outcome
returns-in-Err-TooDeep-clause-outcome c = λ items k. reads items c.args.piece.now _ _ (Err TooDeep) k c.in_default.is c.as_slice.ensures.value c.in_ok-command.ensures.answer (cc)

pub returns-in-Err-TooDeep-clause-only : goal.returns-in-Err-TooDeep-clause-only
returns-in-Err-TooDeep-clause-only c = λ items k s h. only_outcome items c.args.piece.now _ (Err TooDeep) s k c.in_default.is c.as_slice.ensures.value (λ r a. let e = c.in_ok-command.ensures.unique r _ a c.in_ok-command.ensures.answer in cc) h

pub returns-in-Err-Syntax-clause-outcome : goal.returns-in-Err-Syntax-clause-outcome
returns-in-Err-Syntax-clause-outcome c = λ items k. reads items c.args.piece.now _ _ (Err Syntax) k c.in_default.is c.as_slice.ensures.value c.in_ok-command.ensures.answer (cc)

pub returns-in-Err-Syntax-clause-only : goal.returns-in-Err-Syntax-clause-only
returns-in-Err-Syntax-clause-only c = λ items k s h. only_outcome items c.args.piece.now _ (Err Syntax) s k c.in_default.is c.as_slice.ensures.value (λ r a. let e = c.in_ok-command.ensures.unique r _ a c.in_ok-command.ensures.answer in cc) h
