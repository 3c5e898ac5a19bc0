use Rattle.alg_certificate_lines.proofs.CutLaws.{name_text}
use Rattle.alg_certificate_lines.proofs.rows.read_name.Goals as goal

pub returns-in_default : goal.returns-in_default
returns-in_default c = λ n. c.in_default.ensures.cases.0 (name_text c.args.word.now n)
