use Rattle.std.proofs.Common.{rules, ap}
use Rattle.alg_expr.specs.Ids.{statement_of}
use Rattle.alg_kernel.specs.State.{theory_of, progress_of}
use Rattle.alg_check.proofs.Steps.{proved_bad}
use Rattle.alg_check.proofs.following.prove.Goals as goal

pub returns-in_err-follow_all-in-Ok-clause-judged : goal.returns-in_err-follow_all-in-Ok-clause-judged
returns-in_err-follow_all-in-Ok-clause-judged c = λ ls h.
    proved_bad (theory_of c.args.arena.now c.in-Ok.kernel.grounds) _ ls (statement_of c.args.arena.now c.args.goal) (progress_of c.follow_all.new.arena c.follow_all.new.kernel) c.in_err-follow_all-in-Ok.field-0.0 c.follow_all.result c.from_residual.result (ap (theory_of c.args.arena.now) c.in-Ok.ensures.grounds) (c.follow_all.ensures.judged ls (statement_of c.args.arena.now c.args.goal) h) c.in_err-follow_all-in-Ok.was (search rules)
