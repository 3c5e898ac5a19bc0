use Rattle.std.specs.Prelude.{option_copied}
use Rattle.std.proofs.Common.{ap, sym, ◌∙◌}
use Rattle.alg_law.proofs.LawIndexLemmas.{added}
use Rattle.alg_law.proofs.law_index.add.Goals as goal

pub returns-in_ok-insert-in-None : goal.returns-in_ok-insert-in-None
returns-in_ok-insert-in-None c =
    added c.args.table.now c.insert.new.self c.args.law (sym c.get.ensures.value ∙ ap option_copied c.in-None.is) c.in_ok-insert-in-None.ensures.updates
