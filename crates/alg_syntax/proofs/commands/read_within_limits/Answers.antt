use Rattle.alg_syntax.specs.Signs.{signs}
use Rattle.alg_syntax.proofs.OneAnswer.{one_answer}
use Rattle.alg_syntax.proofs.commands.read_within_limits.Goals as goal

pub returns-then-is_too_deep-clause-unique : goal.returns-then-is_too_deep-clause-unique
returns-then-is_too_deep-clause-unique c = one_answer (signs c.args.tokens.now)

pub returns-in_err-command-clause-unique : goal.returns-in_err-command-clause-unique
returns-in_err-command-clause-unique c = one_answer (signs c.args.tokens.now)

pub returns-in-Some-clause-unique : goal.returns-in-Some-clause-unique
returns-in-Some-clause-unique c = one_answer (signs c.args.tokens.now)

pub returns-in-None-clause-unique : goal.returns-in-None-clause-unique
returns-in-None-clause-unique c = one_answer (signs c.args.tokens.now)
