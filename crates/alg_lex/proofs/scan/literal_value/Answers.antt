use Rattle.alg_lex.proofs.Literals.{too_wide}
use Rattle.alg_lex.proofs.scan.literal_value.Goals as goal

pub returns-in_default-2 : goal.returns-in_default-2
returns-in_default-2 c = too_wide c.args.text.now c.requires c.in_default.ensures.value.0
