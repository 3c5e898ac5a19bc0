use Rattle.std.proofs.Common.{length}
use Rattle.std.specs.Str.{chars}
use Rattle.alg_lex.specs.Items.{items_from, beginning}
use Rattle.alg_commands.specs.Cutting.{commands_of}
use Rattle.alg_parse.specs.Progress.{ReadsTo}
use Rattle.alg_parse.proofs.file_trees.read_commands.Given as goal

abbrev pub invariant-file : goal.invariant-file
invariant-file l = ReadsTo (commands_of (items_from beginning (chars l.src))) l.commands l.reader

abbrev pub decreases-file : goal.decreases-file
decreases-file l = length l.commands
