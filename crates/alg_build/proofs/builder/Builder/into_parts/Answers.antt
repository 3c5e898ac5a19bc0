use Rattle.std.proofs.Common.{subst}
use Rattle.alg_build.specs.Book.{Book}
use Rattle.alg_build.specs.Good.{AreGood}
use Rattle.alg_build.proofs.Accepting.{good_accepted}
use Rattle.alg_build.proofs.Growing.{given_is_good}
use Rattle.alg_build.proofs.builder.Builder.into_parts.Goals as goal

pub returns-clause-given : goal.returns-clause-given
returns-clause-given c = given_is_good _ c.self.invariant

pub returns-clause-valid : goal.returns-clause-valid
returns-clause-valid c = λ s. good_accepted (c.args.self.theory) c.args.self.steps c.args.self.done s (subst (λ (b : Book). AreGood (b.theory) b.steps b.done) c.self.view_is c.self.invariant.good)
