use Rattle.std.proofs.Common.{List, take}
use Rattle.alg_terms.specs.declared.sorts.Sort.{Sort}
use Rattle.alg_terms.specs.Tree.{Tree}
use Rattle.alg_build.specs.Book.{Grows}
use Rattle.alg_build.specs.Rewriting.{AllTurn, AllProve}
use Rattle.alg_build.proofs.over_parts.lines_of.Given as goal

abbrev pub invariant-loop-part : goal.invariant-loop-part
invariant-loop-part l = record {
  prove : (ss : List Sort) → (xs ys : List Tree) → AllTurn l.fn.cx ss (take l.part-index l.parts) xs ys → AllProve l.cx l.lines.items xs ys;
  grows : Grows l.fn.cx l.cx;
}
