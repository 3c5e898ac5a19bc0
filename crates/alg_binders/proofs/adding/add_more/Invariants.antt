use Rattle.std.proofs.Common.{◌≡◌, ◌++◌, drop, map}
use Rattle.std.specs.Prelude.{All}
use Rattle.alg_law.specs.Declarations.{declarations_of, IsDeclaredIn}
use Rattle.alg_names.specs.Entering.{entered}
use Rattle.alg_binders.specs.Said.{said_of}
use Rattle.alg_binders.specs.Texts.{texts, texts_of, AreNew}
use Rattle.alg_binders.proofs.adding.add_more.Given as goal

abbrev pub invariant-loop-name : goal.invariant-loop-name
invariant-loop-name l = record {
  fresh : AreNew (texts l.scope.names) (texts_of (drop l.name-index l.names));
  entered : entered l.fn.scope (map (said_of l.arena l.said) (texts_of l.names)) ≡ entered l.scope (map (said_of l.arena l.said) (texts_of (drop l.name-index l.names)));
  told : declarations_of l.arena l.local.items ++ map (said_of l.arena l.said) (texts_of (drop l.name-index l.names)) ≡ declarations_of l.arena l.fn.local.items ++ map (said_of l.arena l.said) (texts_of l.names);
  here : All (IsDeclaredIn l.arena) l.local.items;
}
