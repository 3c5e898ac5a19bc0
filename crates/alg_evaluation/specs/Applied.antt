-- A symbol over parts of which all is found.
use Rattle.std.specs.Prelude.{◌≡◌, Bool, List, Some}
use Rattle.alg_terms.specs.declared.symbols.Sym.{Sym}
use Rattle.alg_terms.specs.Tree.{Tree, App, of_list}
use Rattle.alg_num.specs.Fraction.{Fraction}
use Rattle.alg_lemma.specs.Library.{HoldsLibrary}
use Rattle.alg_build.specs.Book.{Book}
use Rattle.alg_build.specs.Rewriting.{Stands}
use Rattle.alg_evaluation.specs.declared.head.Head.{Head}
use Rattle.alg_evaluation.specs.declared.found.Found.{Found}
use Rattle.alg_evaluation.specs.Found.{AllFound, numbers_of}

-- the tree is the symbol over these parts
pub record IsApplied (covers : Sym → Bool) (b : Book) (h : Head) (fs : List Found) : Type 0 where
  pub trees : List Tree
  pub stands : Stands b h.sort h.expr (App h.sym h.sort (of_list trees))
  pub found : AllFound covers b trees fs
  pub library : HoldsLibrary b.theory.lemmas

-- and these are their values
pub record IsNumbered (covers : Sym → Bool) (b : Book) (h : Head) (fs : List Found) (ps : List Fraction) : Type 0 where
  pub applied : IsApplied covers b h fs
  pub numbers : numbers_of fs ≡ Some ps
