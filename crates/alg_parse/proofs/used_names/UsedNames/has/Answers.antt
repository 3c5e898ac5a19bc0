use Rattle.std.proofs.Common.{sym, ap, ◌∙◌}
use Rattle.std.specs.String.{string_bytes}
use Rattle.alg_binders.specs.Binders.{is_among}
use Rattle.alg_parse.proofs.Lookups.{among_looked_up, some_through}
use Rattle.alg_parse.proofs.used_names.UsedNames.has.Goals as goal

pub returns : goal.returns
returns c =
    c.is_some.ensures ∙ (some_through _ _ _ c.get.ensures.value
    ∙ (sym (among_looked_up string_bytes c.self.inside.table.entries c.args.name.now) ∙ ap (λ ns. is_among ns c.args.name.now) c.self.view_is))
