-- A written tree with the sorts that its declarations give, where arities and sorts fit.
use Rattle.std.specs.Prelude.{ℕ, Bool, true, false, List, [], ◌∷◌, Option, Some, None, map, if◌then◌else◌}
use Rattle.alg_terms.specs.declared.sorts.Sort.{Sort}
use Rattle.alg_terms.specs.declared.symbols.Sym.{Sym}
use Rattle.alg_terms.specs.Tree.{Tree, Trees, Nil, Cons, Lit as literal, Var as variable, App as node, of_list, sort_of_tree}
use Rattle.alg_law.specs.declared.marks.Mark.{Mark}
use Rattle.alg_law.specs.declared.marks.Mark.TheVariants.{Good, NoInstance, BadSort, BadName}
use Rattle.alg_law.specs.Declarations.{Declaration}
use Rattle.alg_law.specs.WellSorted.{head_mark}
use Rattle.alg_proof.specs.Steps.{value_sort}
use Rattle.alg_certificate_lines.specs.Known.{variable_sort}

abbrev pub sorts : List Tree → List Sort
sorts ts = map sort_of_tree ts

-- arities and sorts fit, classes aside
abbrev pub is_sorted : Mark → Bool
is_sorted Good = true
is_sorted NoInstance = true
is_sorted BadSort = false
is_sorted BadName = false

abbrev pub node_over : List Declaration → Sym → List Tree → Option Sort → Option Tree
node_over ds f ts None = None
node_over ds f ts (Some s) = if is_sorted (head_mark ds f s (sorts ts)) then Some (node f s (of_list ts)) else None

-- the symbol over these trees
abbrev pub node_of : List Declaration → Sym → List Tree → Option Tree
node_of ds f ts = node_over ds f ts (value_sort ds f (sorts ts))

abbrev pub then_node : List Declaration → Sym → Option (List Tree) → Option Tree
then_node ds f None = None
then_node ds f (Some ts) = node_of ds f ts

abbrev pub variable_of_sort : ℕ → Option Sort → Option Tree
variable_of_sort k None = None
variable_of_sort k (Some s) = Some (variable k s)

abbrev pub both : Option Tree → Option (List Tree) → Option (List Tree)
both None o = None
both (Some t) None = None
both (Some t) (Some ts) = Some (t ∷ ts)

abbrev mutual
  pub typed : List Declaration → Tree → Option Tree
  typed ds (literal s n) = Some (literal s n)
  typed ds (variable k s) = variable_of_sort k (variable_sort ds k)
  typed ds (node f s ts) = then_node ds f (typed_all ds ts)

  pub typed_all : List Declaration → Trees → Option (List Tree)
  typed_all ds Nil = Some []
  typed_all ds (Cons t ts) = both (typed ds t) (typed_all ds ts)
