use Rattle.std.proofs.Common.{◌≡◌, drop}
use Rattle.alg_binders.specs.Binders.{taken_faults}
use Rattle.alg_binders.specs.Texts.{texts, texts_of}
use Rattle.alg_binders.proofs.taken.more_taken.Given as goal

abbrev pub invariant-loop-name : goal.invariant-loop-name
invariant-loop-name l = taken_faults l.scope (texts l.fn.before) (texts_of l.names) ≡ taken_faults l.scope (texts l.before) (texts_of (drop l.name-index l.names))
