use Rattle.std.specs.Str.{chars}
use Rattle.alg_lex.specs.Items.{beginning}
use Rattle.alg_lex.proofs.Readings.{items_from-reads}
use Rattle.alg_lex.proofs.SlicesLemmas.{items_from-slices}
use Rattle.alg_lex.proofs.Lexer.new.Goals as goal

pub returns-clause-reading : goal.returns-clause-reading
returns-clause-reading c = items_from-reads beginning (chars c.args.src.now)

pub returns-clause-slices : goal.returns-clause-slices
returns-clause-slices c = items_from-slices c.args.src.now c.utf8.src
