-- The goals of a file that was read are those that its commands tell.
use Rattle.std.specs.Prelude.{◌≡◌, List, [], ◌∷◌, ◌++◌, refl}
use Rattle.std.proofs.Common.{ap, sym, ◌∙◌}
use Rattle.std.specs.List.{flat_map}
use Rattle.alg_terms.specs.Tree.{Tree}
use Rattle.alg_law.specs.Declarations.{Declaration}
use Rattle.alg_parse.specs.Told.{Told}
use Rattle.alg_parse.specs.FileTrees.{IsTold, AreTold}
use Rattle.alg_parse.specs.declared.file_trees.Command.{Command}
use Rattle.alg_parse.specs.declared.file_trees.Command.TheVariants as command
use Rattle.alg_check.specs.Goals.{goals_told, goals_in}

goals_same : (ts : List Tree) (shared : List Declaration) (c : Command) (t : Told) → IsTold ts c t → goals_in ts shared c ≡ goals_told shared t
goals_same ts shared command.Declares t h = sym (ap (goals_told shared) h)
goals_same ts shared (command.Goal label line prefix local stmt script) t h = sym (ap (goals_told shared) h.2)
goals_same ts shared (command.Fault line cause) t h = sym (ap (goals_told shared) h)

pub goals_seen-told : (ts : List Tree) (shared : List Declaration) (cs : List Command) (told : List Told) → AreTold ts cs told → flat_map (goals_in ts shared) cs ≡ flat_map (goals_told shared) told
goals_seen-told ts shared [] [] h = refl
goals_seen-told ts shared [] (t ∷ told) h = absurd h
goals_seen-told ts shared (c ∷ cs) [] h = absurd h
goals_seen-told ts shared (c ∷ cs) (t ∷ told) h =
    ap (λ x. x ++ flat_map (goals_in ts shared) cs) (goals_same ts shared c t h.0) ∙ ap (λ x. goals_told shared t ++ x) (goals_seen-told ts shared cs told h.1)
