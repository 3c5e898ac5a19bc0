use Rattle.std.proofs.Common.{sym, subst, ◌∙◌}
use Rattle.alg_law.specs.LawRows.{row_of}
use Rattle.alg_law.specs.WellSorted.{IsStatement}
use Rattle.alg_kernel.proofs.InstanceLemmas.{filled-here}
use Rattle.alg_kernel.proofs.conclusions.row_conclusion.Goals as goal

pub unreachable-requires : goal.unreachable-requires
unreachable-requires c =
    let same = filled-here c.args.arena.now (row_of c.args.row.now) c.args.sort c.args.with.now c.as_slice-letters.result.now c.in_ok-found.found.items c.in_ok-found.ensures c.as_slice-letters.ensures in
    (rw c.in-None.is at c.in_ok-s.ensures.filled c.requires.sorted.0) (subst (IsStatement c.requires.sorted.0) (sym same) c.requires.sorted.1)

pub returns-clause-here : goal.returns-clause-here
returns-clause-here c = (rw c.in-Some.is at c.in_ok-s.ensures.filled c.requires.sorted.0).0

pub returns-clause-concludes : goal.returns-clause-concludes
returns-clause-concludes c =
    (rw c.in-Some.is at c.in_ok-s.ensures.filled c.requires.sorted.0).1
    ∙ filled-here c.args.arena.now (row_of c.args.row.now) c.args.sort c.args.with.now c.as_slice-letters.result.now c.in_ok-found.found.items c.in_ok-found.ensures c.as_slice-letters.ensures
