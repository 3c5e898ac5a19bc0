use Rattle.std.proofs.Common.{◌∙◌}
use Rattle.alg_kernel.proofs.ClaimLemmas.{claim_of-extends}
use Rattle.alg_kernel.proofs.proved.Proved.new.Goals as goal

pub returns-in-Ok-keep-clause-claim : goal.returns-in-Ok-keep-clause-claim
returns-in-Ok-keep-clause-claim c = c.in-Ok-keep.ensures ∙ claim_of-extends c.args.base c.args.arena.now c.accept.new.arena c.args.given c.args.goal c.accept.ensures.keeps c.requires.given_in c.requires.goal_in
