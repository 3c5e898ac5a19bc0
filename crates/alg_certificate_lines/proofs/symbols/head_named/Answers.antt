use Rattle.alg_certificate_lines.proofs.Naming.{head_spelled}
use Rattle.alg_certificate_lines.proofs.symbols.head_named.Goals as goal

pub returns-clause-spelled : goal.returns-clause-spelled
returns-clause-spelled c = head_spelled c.args.word.now _ c.read_head.ensures
