use Rattle.std.proofs.Common.{sym, ap, ◌∙◌}
use Rattle.std.specs.String.{string_bytes}
use Rattle.alg_names.specs.Found.{found}
use Rattle.alg_names.proofs.Lookups.{found_looked_up}
use Rattle.alg_names.proofs.names.Names.lookup.Goals as goal

pub returns : goal.returns
returns c = c.get.ensures.value ∙ (sym (found_looked_up string_bytes c.self.inside.table.entries c.args.name.now) ∙ ap (λ ds. found ds c.args.name.now) c.self.view_is)
