use Rattle.std.proofs.Common.{◌≡◌, ◌+◌, List, drop}
use Rattle.alg_terms.specs.Tree.{Statement}
use Rattle.alg_expr.specs.Arena.{Extends}
use Rattle.alg_proof.specs.Steps.{Step}
use Rattle.alg_kernel.specs.State.{theory_of, progress_of, IsSound}
use Rattle.alg_check.specs.Following.{IsAt, Spell}
use Rattle.alg_check.specs.Written.{seen}
use Rattle.alg_check.proofs.Steps.{Left}
use Rattle.alg_check.proofs.following.follow_all.Given as goal

abbrev pub invariant-loop-text : goal.invariant-loop-text
invariant-loop-text l = record {
  keeps : Extends l.fn.arena l.arena;
  grounds : l.kernel.grounds ≡ l.fn.kernel.grounds;
  sound : IsSound l.arena l.kernel;
  based : l.kernel.grounds.base.now ≡ l.base;
  number : IsAt l.number (progress_of l.arena l.kernel);
  counted : l.number ≡ l.text-index + 1;
  left : (ls : List Step) (goal : Statement) → Spell ls (seen l.fn.texts) → Left (theory_of l.fn.arena l.fn.kernel.grounds) (progress_of l.arena l.kernel) (seen (drop l.text-index l.fn.texts)) ls goal;
}
