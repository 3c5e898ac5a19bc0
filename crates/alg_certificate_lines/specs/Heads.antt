-- Whether the head of a tree has its classes, its arguments aside.
use Rattle.std.specs.Prelude.{Bool, List}
use Rattle.alg_terms.specs.Tree.{Tree, Lit as literal, Var as variable, App as node}
use Rattle.alg_law.specs.Declarations.{Declaration}
use Rattle.alg_law.specs.WellSorted.{literal_mark, variable_mark, head_mark, sorts_of}
use Rattle.alg_certificate_lines.specs.Known.{is_good}

abbrev pub head_good : List Declaration → Tree → Bool
head_good ds (literal s n) = is_good (literal_mark ds s n)
head_good ds (variable k s) = is_good (variable_mark ds k s)
head_good ds (node f s ts) = is_good (head_mark ds f s (sorts_of ts))
