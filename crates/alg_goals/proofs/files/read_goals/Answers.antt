use Rattle.std.proofs.Common.{All}
use Rattle.std.proofs.lemmas.Result.{IfOk-weaker}
use Rattle.alg_parse.specs.FileTrees.{IsRead}
use Rattle.alg_goals.specs.Goals.{IsDeclarableIn}
use Rattle.alg_goals.proofs.Telling.{all_declarable}
use Rattle.alg_goals.proofs.files.read_goals.Goals as goal

pub returns-clause-declarable : goal.returns-clause-declarable
returns-clause-declarable c =
    IfOk-weaker c.read_file.result (IsRead c.args.src.now) (λ f. All (IsDeclarableIn f.arena f.shared) f.commands) (λ f r. all_declarable f (record { text = c.args.src.now; utf8 = c.utf8.src; read = r })) c.read_file.ensures
