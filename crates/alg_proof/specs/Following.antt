-- When a row follows from the laws.
use Rattle.std.specs.Prelude.{List, map, Option}
use Rattle.alg_terms.specs.declared.sorts.Sort.{Sort}
use Rattle.alg_terms.specs.Tree.{Tree, Statement}
use Rattle.alg_law.specs.Declarations.{Declaration}
use Rattle.alg_law.specs.Lawful.{IsLawful}
use Rattle.alg_law.specs.Patterns.{fill_statement}
use Rattle.alg_law.specs.Rows.{Row, letters_of, MayFill}
use Rattle.alg_law.specs.Derivations.{Derivable, AllDerivable}

-- whatever the declarations, the given statement, the sort and the trees, the conclusion is derivable where the premises are
abbrev pub IsAdmissible : Row → Type 0
IsAdmissible r =
    (ds : List Declaration) (given : Option Statement) (s : Sort) (with : List Tree)
    → IsLawful ds → MayFill ds r s with
    → AllDerivable ds given (map (fill_statement (letters_of r) s with) r.premises)
    → Derivable ds given (fill_statement (letters_of r) s with r.conclusion)
