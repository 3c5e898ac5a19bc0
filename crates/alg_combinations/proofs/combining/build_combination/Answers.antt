use Rattle.std.proofs.Common.{reverse, ◌∷◌, [], ◌++◌, ◌∙◌, ap, refl}
use Rattle.alg_expr.proofs.ArenaLaws.{Extends-then, Extends-self}
use Rattle.alg_law.specs.Combinations.{negative}
use Rattle.alg_syntax.specs.Nodes.{tree_at}
use Rattle.alg_elaborate.specs.Raw.{meant}
use Rattle.alg_combinations.specs.declared.combining.Job.{Job}
use Rattle.alg_combinations.specs.Combined.{joint}
use Rattle.alg_combinations.specs.Combining.{left_of, leaf_of, with_leaf, step_of}
use Rattle.alg_combinations.proofs.CombinedLaws.{so_far-push, newest, step_part, step_here, rest_within}
use Rattle.alg_combinations.proofs.combining.build_combination.Goals as goal

pub combining-preserved-in-Continue-branch-5 : goal.combining-preserved-in-Continue-branch-5
combining-preserved-in-Continue-branch-5 c =
    let s = c.args.scope.now in
    let k = c.args.sort in
    let ts = c.args.nodes.now in
    let r = meant (tree_at ts c.in-Down.id) in
    let rest = c.pop.new.self.items in
    let left = left_of s k ts (reverse c.plan.new.jobs.items) in
    let made = c.in_ok-step-in-Down.ensures in
    record {
      within = c.in_ok-leaf-in-Down.ensures.within;
      kept = Extends-then _ _ _ c.combining.invariant.kept made.kept;
      same = so_far-push c.combining.arena c.leaf_step.new.arena c.combining.steps.items _ c.in_ok-step-in-Down.step (leaf_of s k r c.in-Some-2.leaf) _ left _ made.kept c.combining.invariant.same made.here made.told c.in_ok-push-in-Down.ensures.items
          (newest s k ts c.combining.jobs.items rest c.in-Some.job c.in-Some.ensures.items
          ∙ ap (λ (j : Job). left_of s k ts (j ∷ reverse rest)) c.in-Down.is
          ∙ c.in_ok-leaf-in-Down.ensures.exact
          ∙ ap (λ o. with_leaf s k r o left) c.in-Some-2.is);
    }

pub combining-preserved-in-Continue-branch-6 : goal.combining-preserved-in-Continue-branch-6
combining-preserved-in-Continue-branch-6 c =
    let s = c.args.scope.now in
    let k = c.args.sort in
    let ts = c.args.nodes.now in
    let rest = c.pop.new.self.items in
    record {
      within = rest_within _ c.combining.jobs.items rest c.in-Some.job c.combining.invariant.within c.in-Some.ensures.items;
      kept = c.combining.invariant.kept;
      same = so_far-push c.combining.arena c.combining.arena c.combining.steps.items _ _ negative _ (left_of s k ts (reverse rest)) _ (Extends-self c.combining.arena) c.combining.invariant.same tt refl c.in_ok-push-in-Negate.ensures.items
          (newest s k ts c.combining.jobs.items rest c.in-Some.job c.in-Some.ensures.items ∙ ap (λ (j : Job). left_of s k ts (j ∷ reverse rest)) c.in-Negate.is);
    }

pub combining-preserved : goal.combining-preserved
combining-preserved c =
    let s = c.args.scope.now in
    let k = c.args.sort in
    let ts = c.args.nodes.now in
    let rest = c.pop.new.self.items in
    let o = c.in-Join.operator in
    record {
      within = rest_within _ c.combining.jobs.items rest c.in-Some.job c.combining.invariant.within c.in-Some.ensures.items;
      kept = c.combining.invariant.kept;
      same = so_far-push c.combining.arena c.combining.arena c.combining.steps.items _ (step_of o) (joint o) _ (left_of s k ts (reverse rest)) _ (Extends-self c.combining.arena) c.combining.invariant.same (step_here c.combining.arena o) (step_part c.combining.arena o)
          (c.in_ok-push-in-Join.ensures.items ∙ ap (λ x. c.combining.steps.items ++ x ∷ []) c.step_of.ensures)
          (newest s k ts c.combining.jobs.items rest c.in-Some.job c.in-Some.ensures.items ∙ ap (λ (j : Job). left_of s k ts (j ∷ reverse rest)) c.in-Join.is);
    }
