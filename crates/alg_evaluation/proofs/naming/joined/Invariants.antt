use Rattle.std.proofs.Common.{◌≡◌, take}
use Rattle.alg_evaluation.specs.Parts.{valued_with}
use Rattle.alg_evaluation.proofs.naming.joined.Given as goal

abbrev pub invariant-loop-f : goal.invariant-loop-f
invariant-loop-f l = record {
  index : l.i ≡ l.f-index;
  items : l.args.items ≡ valued_with (take l.f-index l.parts) (take l.f-index l.lines);
}
