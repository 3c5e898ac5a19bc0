use Rattle.std.proofs.Common.{drop}
use Rattle.std.specs.Prelude.{All}
use Rattle.alg_expr.specs.Arena.{Extends}
use Rattle.alg_law.specs.Declarations.{declarations_of, IsDeclaredIn}
use Rattle.alg_binders.proofs.Steps.{Walks}
use Rattle.alg_binders.proofs.binders.add_binders.Given as goal

abbrev pub invariant-loop-binder : goal.invariant-loop-binder
invariant-loop-binder l = record {
  kept : Extends l.fn.arena l.arena;
  here : All (IsDeclaredIn l.arena) l.local.items;
  walks : Walks l.fn.scope l.binders (declarations_of l.fn.arena l.fn.local.items) l.scope (drop l.binder-index l.binders) (declarations_of l.arena l.local.items);
}
