use Rattle.std.proofs.Common.{ℕ, List, [], ◌∷◌, ◌++◌, ap, ◌∙◌, map}
use Rattle.std.proofs.lemmas.List.{map-append}
use Rattle.std.specs.String.{string_bytes}
use Rattle.indexmap.proofs.CallerLemmas.{insert_entry-new}
use Rattle.alg_binders.specs.Binders.{is_among}
use Rattle.alg_parse.proofs.Lookups.{none_looked_up}
use Rattle.alg_parse.proofs.used_names.UsedNames.add.Goals as goal

pub returns-clause-added : goal.returns-clause-added
returns-clause-added c =
    ap (map (λ e. string_bytes e.0)) (c.in_ok-insert.ensures.entries ∙ insert_entry-new _ c.self.inside.table c.args.name c.args.line (none_looked_up string_bytes c.self.inside.table.entries (string_bytes c.args.name) (ap (λ ns. is_among ns (string_bytes c.args.name)) c.self.view_is ∙ c.requires)))
    ∙ (map-append (λ e. string_bytes e.0) c.self.inside.table.entries ((c.args.name, c.args.line) ∷ [])
    ∙ ap (λ (ns : List (List ℕ)). ns ++ string_bytes c.args.name ∷ []) c.self.view_is)
