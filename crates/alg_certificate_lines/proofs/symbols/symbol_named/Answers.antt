use Rattle.alg_certificate_lines.proofs.Naming.{symbol_spelled}
use Rattle.alg_certificate_lines.proofs.symbols.symbol_named.Goals as goal

pub returns-clause-spelled : goal.returns-clause-spelled
returns-clause-spelled c = symbol_spelled c.args.word.now _ c.read_symbol.ensures
