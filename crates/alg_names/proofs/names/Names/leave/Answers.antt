use Rattle.alg_names.specs.declared.meanings.Meaning.{Meaning}
use Rattle.std.proofs.Common.{ℕ, List, sym, ap, ◌∙◌, map, take}
use Rattle.std.proofs.lemmas.List.{take-map}
use Rattle.std.specs.String.{string_bytes}
use Rattle.alg_names.proofs.names.Names.leave.Goals as goal

pub returns : goal.returns
returns c =
    ap (map (λ e. (string_bytes e.0, e.1))) c.truncate.ensures.entries
    ∙ (sym (take-map (λ e. (string_bytes e.0, e.1)) c.args.len c.self.inside.table.entries)
    ∙ ap (λ (ds : List (List ℕ × Meaning)). take c.args.len ds) c.self.view_is)
