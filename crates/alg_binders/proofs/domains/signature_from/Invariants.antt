use Rattle.std.proofs.Common.{◌≡◌, ◌++◌, drop}
use Rattle.alg_binders.specs.Binders.{all_sort_faults, all_but_last, last_of, sorts_of}
use Rattle.alg_binders.proofs.domains.signature_from.Given as goal

abbrev pub invariant-loop-name : goal.invariant-loop-name
invariant-loop-name l = record {
  args : l.args.items ++ all_but_last l.value (sorts_of l.scope (drop l.name-index l.more)) ≡ all_but_last l.fn.first_sort (sorts_of l.scope l.more);
  last : last_of l.value (sorts_of l.scope (drop l.name-index l.more)) ≡ last_of l.fn.first_sort (sorts_of l.scope l.more);
  seeks : all_sort_faults l.scope l.more ≡ all_sort_faults l.scope (drop l.name-index l.more);
}
