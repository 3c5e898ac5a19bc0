use Rattle.std.proofs.Common.{◌≡◌, sym, subst}
use Rattle.std.proofs.lemmas.Result.{IfOk-weaker}
use Rattle.alg_show.specs.ReadingBack.{AreDeclarable}
use Rattle.alg_goals.specs.Goals.{base_in}
use Rattle.alg_goals.proofs.Telling.{base_declarable}
use Rattle.alg_goals.proofs.bases.base_of.Goals as goal

pub returns-clause-declarable : goal.returns-clause-declarable
returns-clause-declarable c =
    let base = base_in c.args.file.now c.args.prefix c.args.local.now in
    IfOk-weaker c.joined.result (λ b. b ≡ base) AreDeclarable
    (λ b e. subst AreDeclarable (sym e) (base_declarable c.args.file.now c.args.prefix c.args.local.now c.requires.read c.requires.goal)) c.joined.ensures
