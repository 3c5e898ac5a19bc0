use Rattle.std.proofs.Common.{List, subst, sym}
use Rattle.alg_lex.specs.Items.{Item}
use Rattle.alg_commands.specs.Cutting.{commands_of}
use Rattle.alg_commands.specs.Cuts.{IsCut}
use Rattle.alg_commands.proofs.Cuts.{is_cut, only_cut}
use Rattle.alg_commands.proofs.files.Commands.new.Goals as goal

pub returns-clause-cut : goal.returns-clause-cut
returns-clause-cut c = subst (λ (xs : List Item). IsCut xs (commands_of c.new.result)) c.new.ensures.items (is_cut c.new.result)

pub returns-clause-only : goal.returns-clause-only
returns-clause-only c = λ cs h. only_cut c.new.result cs (subst (λ (xs : List Item). IsCut xs cs) (sym c.new.ensures.items) h)
