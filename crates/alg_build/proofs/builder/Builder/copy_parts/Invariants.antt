use Rattle.std.proofs.Common.{◌≡◌, All, take}
use Rattle.alg_build.specs.Book.{KeepsLines}
use Rattle.alg_law.specs.Combinations.{parts_at, IsStepIn}
use Rattle.alg_build.proofs.builder.Builder.copy_parts.Given as goal

abbrev pub invariant-loop-step : goal.invariant-loop-step
invariant-loop-step l = record {
  keeps : KeepsLines l.fn.self l.self;
  here : All (IsStepIn l.self.trees) l.copies.items;
  parts : parts_at l.self.trees l.copies.items ≡ parts_at l.from (take l.step-index l.steps);
}
