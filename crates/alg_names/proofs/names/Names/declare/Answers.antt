use Rattle.alg_names.specs.declared.meanings.Meaning.{Meaning}
use Rattle.std.proofs.Common.{ℕ, List, [], ◌∷◌, ◌++◌, sym, ap, ◌∙◌, map}
use Rattle.std.proofs.lemmas.List.{map-append}
use Rattle.std.specs.String.{string_bytes}
use Rattle.indexmap.proofs.CallerLemmas.{insert_entry-new}
use Rattle.alg_names.specs.Found.{found}
use Rattle.alg_names.proofs.Lookups.{found_looked_up}
use Rattle.alg_names.proofs.names.Names.declare.Goals as goal

pub returns-clause-declared : goal.returns-clause-declared
returns-clause-declared c =
    ap (map (λ e. (string_bytes e.0, e.1))) (c.in_ok-insert.ensures.entries ∙ insert_entry-new _ c.self.inside.table c.args.name c.args.meaning (sym (found_looked_up string_bytes c.self.inside.table.entries (string_bytes c.args.name)) ∙ (ap (λ ds. found ds (string_bytes c.args.name)) c.self.view_is ∙ c.requires)))
    ∙ (map-append (λ e. (string_bytes e.0, e.1)) c.self.inside.table.entries ((c.args.name, c.args.meaning) ∷ [])
    ∙ ap (λ (ds : List (List ℕ × Meaning)). ds ++ (string_bytes c.args.name, c.args.meaning) ∷ []) c.self.view_is)
