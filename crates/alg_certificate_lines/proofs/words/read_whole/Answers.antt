use Rattle.std.proofs.Common.{sym}
use Rattle.alg_certificate.proofs.NumberLaws.{number_sound}
use Rattle.alg_certificate_lines.proofs.words.read_whole.Goals as goal

pub returns-then-is_empty-clause-in_range : goal.returns-then-is_empty-clause-in_range
returns-then-is_empty-clause-in_range c = (number_sound c.args.word.now _ _ (sym c.in_ok-number.ensures)).1
