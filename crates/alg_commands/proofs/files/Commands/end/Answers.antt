use Rattle.std.proofs.Common.{ap, ◌∙◌}
use Rattle.std.proofs.lemmas.Str.{chars-nil}
use Rattle.alg_lex.specs.Items.{items, items_from, beginning}
use Rattle.alg_commands.specs.Cutting.{commands_of}
use Rattle.alg_commands.proofs.files.Commands.end.Goals as goal

pub returns : goal.returns
unfolding items
returns c = ap commands_of (c.new-self-inside.ensures.items ∙ ap (items_from beginning) chars-nil)
