-- What is in force.
use Rattle.std.specs.Prelude.{ℕ, List, Bool, ◌&&◌, Option}
use Rattle.alg_terms.specs.declared.sorts.Sort.{Sort}
use Rattle.alg_terms.specs.declared.symbols.Sym.{Sym}
use Rattle.alg_terms.specs.declared.relations.Rel.{Rel}
use Rattle.alg_terms.specs.Symbols.{serves}
use Rattle.alg_law.specs.declared.classes.Class.{Class}
use Rattle.alg_law.specs.Declarations.{Declaration}
use Rattle.alg_law.specs.Having.{has_class}
use Rattle.alg_law.specs.WellSorted.{has_classes, has_relation}
use Rattle.alg_names.specs.declared.meanings.Meaning.{Meaning}
use Rattle.alg_names.specs.declared.scope.Scope.{Scope}
use Rattle.alg_names.specs.Found.{found}
use Rattle.alg_names.specs.Granting.{instances_of}

-- what a name stands for
abbrev pub meaning : Scope → List ℕ → Option Meaning
meaning s x = found s.names x

-- the classes of the type variables, as declarations
abbrev pub instances : Scope → List Declaration
instances s = instances_of s.granted

abbrev pub has : Scope → Sort → Class → Bool
has s k c = has_class (instances s) k c

-- the symbol may have a value of the sort, which has the classes that it needs
abbrev pub supports : Scope → Sym → Sort → Bool
supports s f k = serves f k && has_classes (instances s) f k

-- the sort has the relation
abbrev pub relates : Scope → Rel → Sort → Bool
relates s r k = has_relation (instances s) r k
