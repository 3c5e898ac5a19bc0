use Rattle.std.proofs.Common.{sym, ap, ◌∙◌}
use Rattle.alg_commands.specs.Cutting.{commands_of}
use Rattle.alg_commands.proofs.Outcomes.{only_given}
use Rattle.alg_commands.proofs.files.Commands.read_next.Goals as goal

pub returns-clause-only : goal.returns-clause-only
returns-clause-only c = λ r left g. only_given _ c.in_ok-piece.ensures.items _ _ r left (sym c.self.view_is ∙ (ap commands_of c.in-Some.ensures ∙ c.in_ok-piece.ensures.cut)) (c.in_ok-reading.ensures.only c.in_ok-piece.ensures.items c.in_ok-piece.ensures.keeps) g
