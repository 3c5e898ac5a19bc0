use Rattle.std.proofs.Common.{◌≡◌, take, All, None}
use Rattle.alg_build.specs.declared.rewriting.Rewriting.{Rewriting}
use Rattle.alg_build.proofs.over_parts.are_kept.Given as goal

abbrev pub invariant-loop-part : goal.invariant-loop-part
invariant-loop-part l = All (λ (r : Rewriting). r.line ≡ None) (take l.part-index l.parts)
