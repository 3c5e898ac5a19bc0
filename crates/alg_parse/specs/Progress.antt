-- How far a file is read.
use Rattle.std.specs.Prelude.{◌≡◌, ℕ, List, ◌++◌, All}
use Rattle.alg_terms.specs.Tree.{Tree}
use Rattle.alg_lex.specs.Items.{Item}
use Rattle.alg_law.specs.Declarations.{Declaration}
use Rattle.alg_law.specs.Following.{IsWellFormed}
use Rattle.alg_names.specs.declared.scope.Scope.{Scope}
use Rattle.alg_parse.specs.declared.file_trees.Command.{Command}
use Rattle.alg_parse.specs.declared.reader.Reader.{Reader}
use Rattle.alg_parse.specs.Told.{Told}
use Rattle.alg_parse.specs.Files.{Known, nothing, in_force, Tell}
use Rattle.alg_parse.specs.FileTrees.{AreTold, IsCommandIn}

-- what is known, and what the commands so far told, over the trees of an arena
pub record IsAt (k : Known) (told : List Told) (ts : List Tree) (s : Scope) (sh : List Declaration) (us : List (List ℕ)) (cs : List Command) : Type 0 where
  pub scope : s ≡ in_force k
  pub shared : sh ≡ k.shared
  pub used : us ≡ k.used
  pub well_formed : IsWellFormed sh
  pub commands : AreTold ts cs told
  pub each : All (IsCommandIn ts sh) cs

-- a reader that is so far
abbrev pub Stands : Known → List Told → Reader → Type 0
Stands k told r = IsAt k told r.arena r.scope r.shared r.used r.commands.items

-- a reader that is somewhere in a file
pub record Reads (r : Reader) : Type 0 where
  pub known : Known
  pub told : List Told
  pub stands : Stands known told r

-- What is read so far tells this, whatever the commands that are left tell.
pub record HasTold (all : List (List Item)) (k : Known) (told : List Told) (left : List (List Item)) : Type 0 where
  pub ends : (rest : List Told) (end : Known) → Tell k left rest end → Tell nothing all (told ++ rest) end

-- a reader that has read all but what is left
pub record ReadsTo (all : List (List Item)) (left : List (List Item)) (r : Reader) : Type 0 where
  pub known : Known
  pub told : List Told
  pub has_told : HasTold all known told left
  pub stands : Stands known told r
