use Rattle.std.proofs.Common.{◌≡◌, ℕ, ◌-◌, ◌++◌, ◌∷◌, [], List, arith, sym, ap, ◌∙◌, length, reverse, take, drop, Some, length-drop, subst, refl}
use Rattle.std.proofs.lemmas.List.{length-map}
use Rattle.alg_expr.specs.declared.ids.ExprId.{ExprId}
use Rattle.alg_expr.proofs.ArenaLaws.{Extends-then}
use Rattle.alg_expr.specs.Ids.{tree_of, trees_at}
use Rattle.alg_elaborate.specs.declared.building.Job.TheVariants as job
use Rattle.alg_elaborate.specs.TypedTrees.{compound}
use Rattle.alg_elaborate.specs.Jobs.{done, leaf_tree, Enough}
use Rattle.alg_elaborate.proofs.Builds.{value_pushed, symbol_pushed, job_taken, enough_taken, after_leaf, enough_leaf, length_pushed, in_taken}
use Rattle.alg_elaborate.proofs.building.build.Goals as goal

take_whole : (xs : List ExprId) → take (length xs) xs ≡ xs
take_whole [] = refl
take_whole (x ∷ xs) = ap (λ ys. x ∷ ys) (take_whole xs)

rest_whole : (n : ℕ) (xs : List ExprId) → take (length xs - n) (drop n xs) ≡ drop n xs
rest_whole n xs = ap (λ (k : ℕ). take k (drop n xs)) (sym (length-drop n xs)) ∙ take_whole (drop n xs)

pub building-preserved-in-Continue-branch-5 : goal.building-preserved-in-Continue-branch-5
building-preserved-in-Continue-branch-5 c =
    let l = c.in-Some-2.leaf in
    let is : c.in_ok-leaf-in-Down.field-0 ≡ Some l = c.in-Some-2.is in
    let vs = trees_at c.building.arena c.building.values.items in
    let many = length-map c.building.values.items (tree_of c.building.arena) in
    let size : length vs ≡ c.len-start.result = omega (arith, many, c.len-start.ensures, c.building.values.ok.0) in
    let made = c.in_ok-made-in-Down.ensures.made in
    let p = value_pushed _ _ c.building.values.items _ c.in_ok-made-in-Down.made (leaf_tree c.in-Down.sort l) c.building.invariant.below made.keeps made.here made.tree c.in_ok-push-in-Down.ensures.items in
    record {
      within = c.in_ok-leaf-in-Down.ensures.within;
      enough = enough_leaf c.plan.new.jobs.items c.in_ok-leaf-in-Down.field-0 l c.len-start.result (length c.push-in-Some-2.new.self.items) c.in_ok-leaf-in-Down.ensures.enough is (omega (arith, size, many, length_pushed c.building.values.items _ _ c.in_ok-push-in-Down.ensures.items));
      below = p.1;
      grows = Extends-then _ _ _ c.building.invariant.grows made.keeps;
      same = after_leaf c.args.scope.now c.args.nodes.now _ vs c.building.jobs.items c.pop.new.self.items c.plan.new.jobs.items c.in-Some.job c.in-Down.sort c.in-Down.id c.len-start.result c.in_ok-leaf-in-Down.field-0 l c.building.invariant.same c.in-Some.ensures.items c.in-Down.is size c.in_ok-leaf-in-Down.ensures.exact is ∙ ap (done c.args.scope.now c.args.nodes.now (reverse c.plan.new.jobs.items)) (sym p.0);
    }

pub building-preserved-in-Continue-branch-7 : goal.building-preserved-in-Continue-branch-7
building-preserved-in-Continue-branch-7 c =
    let vs = trees_at c.building.arena c.building.values.items in
    let en = enough_taken c.building.jobs.items c.pop.new.self.items c.in-Some.job (job.Up c.in-Up.sym c.in-Up.sort c.in-Up.start) _ c.building.invariant.enough c.in-Some.ensures.items c.in-Up.is in
    let args = rest_whole c.in-Up.start c.deref.result.now ∙ ap (λ (ids : List ExprId). drop c.in-Up.start ids) c.deref.ensures.value in
    let made = c.in_ok-made-in-Up.ensures.made in
    let p = symbol_pushed _ _ c.building.values.items _ c.in_ok-made-in-Up.made c.in-Up.start c.in-Up.sym c.in-Up.sort en.0 c.building.invariant.below made.keeps made.here (made.tree ∙ ap (λ (ids : List ExprId). compound c.in-Up.sym c.in-Up.sort (trees_at c.building.arena ids)) args) (c.in_ok-push-in-Up.ensures.items ∙ ap (λ xs. xs ++ c.in_ok-made-in-Up.made ∷ []) c.truncate.ensures.items) in
    record {
      within = in_taken c.args.scope.now c.args.nodes.now c.building.jobs.items c.pop.new.self.items c.in-Some.job c.building.invariant.within c.in-Some.ensures.items;
      enough = subst (Enough (reverse c.pop.new.self.items)) (sym p.2) en.1;
      below = p.1;
      grows = Extends-then _ _ _ c.building.invariant.grows made.keeps;
      same = job_taken c.args.scope.now c.args.nodes.now _ vs c.building.jobs.items c.pop.new.self.items c.in-Some.job (job.Up c.in-Up.sym c.in-Up.sort c.in-Up.start) c.building.invariant.same c.in-Some.ensures.items c.in-Up.is ∙ ap (done c.args.scope.now c.args.nodes.now (reverse c.pop.new.self.items)) (sym p.0);
    }
