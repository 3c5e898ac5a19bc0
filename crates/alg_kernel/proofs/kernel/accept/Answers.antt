use Rattle.std.proofs.Common.{rules}
use Rattle.alg_expr.specs.Ids.{statement_of}
use Rattle.alg_expr.proofs.ArenaLaws.{statement_of-extends}
use Rattle.alg_proof.specs.Lines.{steps_of}
use Rattle.alg_kernel.proofs.KernelLemmas.{accept-bad, accept-all, accept-derivable}
use Rattle.alg_kernel.proofs.ClaimLemmas.{accept-holds}
use Rattle.alg_kernel.proofs.kernel.accept.Goals as goal

pub returns-in_err-feed_all-in-Ok-clause-verdict : goal.returns-in_err-feed_all-in-Ok-clause-verdict
returns-in_err-feed_all-in-Ok-clause-verdict c =
    accept-bad (record { lemmas = c.args.lemmas; base = c.args.base; given = c.args.given }) c.args.arena.now c.feed_all.new.arena c.in-Ok.kernel c.feed_all.new.kernel c.in-Ok.ensures (steps_of c.args.arena.now c.args.lines.now) (statement_of c.args.arena.now c.args.goal)
    c.feed_all.result c.in_err-feed_all-in-Ok.field-0.0 c.from_residual.result c.in_err-feed_all-in-Ok.was (search rules) c.feed_all.ensures.answers

pub returns-in_ok-feed_all-in-Ok-clause-verdict : goal.returns-in_ok-feed_all-in-Ok-clause-verdict
returns-in_ok-feed_all-in-Ok-clause-verdict c =
    accept-all (record { lemmas = c.args.lemmas; base = c.args.base; given = c.args.given }) c.args.arena.now c.feed_all.new.arena c.in-Ok.kernel c.feed_all.new.kernel c.in-Ok.ensures (steps_of c.args.arena.now c.args.lines.now) (statement_of c.args.arena.now c.args.goal)
    c.feed_all.result c.in_ok-feed_all-in-Ok.field-0 c.finish.result c.in_ok-feed_all-in-Ok.was c.feed_all.ensures.answers (rw (← statement_of-extends c.args.arena.now c.feed_all.new.arena c.args.goal c.feed_all.ensures.keeps c.requires.goal_in) c.finish.ensures.verdict)

pub returns-in_ok-feed_all-in-Ok-clause-derivable : goal.returns-in_ok-feed_all-in-Ok-clause-derivable
returns-in_ok-feed_all-in-Ok-clause-derivable c =
    accept-derivable (record { lemmas = c.args.lemmas; base = c.args.base; given = c.args.given }) c.args.arena.now c.feed_all.new.arena c.in-Ok.kernel c.feed_all.new.kernel c.in-Ok.ensures (steps_of c.args.arena.now c.args.lines.now) (statement_of c.args.arena.now c.args.goal)
    c.finish.result c.requires.given_in
    (accept-all (record { lemmas = c.args.lemmas; base = c.args.base; given = c.args.given }) c.args.arena.now c.feed_all.new.arena c.in-Ok.kernel c.feed_all.new.kernel c.in-Ok.ensures (steps_of c.args.arena.now c.args.lines.now) (statement_of c.args.arena.now c.args.goal)
    c.feed_all.result c.in_ok-feed_all-in-Ok.field-0 c.finish.result c.in_ok-feed_all-in-Ok.was c.feed_all.ensures.answers (rw (← statement_of-extends c.args.arena.now c.feed_all.new.arena c.args.goal c.feed_all.ensures.keeps c.requires.goal_in) c.finish.ensures.verdict))

pub returns-in_ok-feed_all-in-Ok-clause-holds : goal.returns-in_ok-feed_all-in-Ok-clause-holds
returns-in_ok-feed_all-in-Ok-clause-holds c =
    accept-holds (record { lemmas = c.args.lemmas; base = c.args.base; given = c.args.given }) c.args.arena.now c.feed_all.new.arena c.in-Ok.kernel c.feed_all.new.kernel c.in-Ok.ensures (steps_of c.args.arena.now c.args.lines.now) (statement_of c.args.arena.now c.args.goal)
    c.finish.result c.requires.given_in
    (accept-all (record { lemmas = c.args.lemmas; base = c.args.base; given = c.args.given }) c.args.arena.now c.feed_all.new.arena c.in-Ok.kernel c.feed_all.new.kernel c.in-Ok.ensures (steps_of c.args.arena.now c.args.lines.now) (statement_of c.args.arena.now c.args.goal)
    c.feed_all.result c.in_ok-feed_all-in-Ok.field-0 c.finish.result c.in_ok-feed_all-in-Ok.was c.feed_all.ensures.answers (rw (← statement_of-extends c.args.arena.now c.feed_all.new.arena c.args.goal c.feed_all.ensures.keeps c.requires.goal_in) c.finish.ensures.verdict))
