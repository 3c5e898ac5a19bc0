use Rattle.std.proofs.Common.{◌≡◌, ◌+◌, ◌-◌, ◌≤◌, arith, sym, ap, ◌∙◌, subst}
use Rattle.std.specs.Prelude.{slice_get}
use Rattle.alg_syntax.specs.Nodes.{tree_at, tree_of, IsBelow}
use Rattle.alg_elaborate.specs.Meanings.{argument_sorts}
use Rattle.alg_elaborate.specs.Tasks.{sorts_for}
use Rattle.alg_elaborate.proofs.LastArguments.{some_there, none_there}
use Rattle.alg_elaborate.proofs.LastJobs.{last_same, last_in, last_enough}
use Rattle.alg_elaborate.proofs.building.last_argument.Goals as goal

pub overflow_sub-last : goal.overflow_sub-last
overflow_sub-last c =
    some_there _ (tree_at c.args.source.now.nodes.now c.in-Apply.a) (tree_at c.args.source.now.nodes.now c.in-Apply.b) _ (c.get.ensures.tree ∙ ap (tree_of c.args.source.now.nodes.now) c.in-Apply.is) c.requires.job.2

pub returns-in_default-argument_sort-clause-same : goal.returns-in_default-argument_sort-clause-same
returns-in_default-argument_sort-clause-same c =
    let e = c.get.ensures.tree ∙ ap (tree_of c.args.source.now.nodes.now) c.in-Apply.is in
    let some : 1 ≤ c.args.count = some_there _ (tree_at c.args.source.now.nodes.now c.in-Apply.a) (tree_at c.args.source.now.nodes.now c.in-Apply.b) _ e c.requires.job.2 in
    let back : c.args.count - 1 + 1 ≡ c.args.count = omega (arith, some) in
    absurd (none_there (sorts_for c.args.source.now.scope.now c.args.source.now.nodes.now c.args.sort c.args.name) (c.args.count - 1) c.args.count back c.requires.job.3
    (ap (λ o. slice_get (argument_sorts c.args.sort o) (c.args.count - 1)) (sym c.meaning_at-stands_for.ensures) ∙ sym c.in_default-argument_sort.ensures))

pub returns-in_default-argument_sort-clause-enough : goal.returns-in_default-argument_sort-clause-enough
returns-in_default-argument_sort-clause-enough c =
    let e = c.get.ensures.tree ∙ ap (tree_of c.args.source.now.nodes.now) c.in-Apply.is in
    let some : 1 ≤ c.args.count = some_there _ (tree_at c.args.source.now.nodes.now c.in-Apply.a) (tree_at c.args.source.now.nodes.now c.in-Apply.b) _ e c.requires.job.2 in
    let back : c.args.count - 1 + 1 ≡ c.args.count = omega (arith, some) in
    absurd (none_there (sorts_for c.args.source.now.scope.now c.args.source.now.nodes.now c.args.sort c.args.name) (c.args.count - 1) c.args.count back c.requires.job.3
    (ap (λ o. slice_get (argument_sorts c.args.sort o) (c.args.count - 1)) (sym c.meaning_at-stands_for.ensures) ∙ sym c.in_default-argument_sort.ensures))

pub returns-in_ok-push-2-clause-same : goal.returns-in_ok-push-2-clause-same
returns-in_ok-push-2-clause-same c =
    let e = c.get.ensures.tree ∙ ap (tree_of c.args.source.now.nodes.now) c.in-Apply.is in
    let some : 1 ≤ c.args.count = some_there _ (tree_at c.args.source.now.nodes.now c.in-Apply.a) (tree_at c.args.source.now.nodes.now c.in-Apply.b) _ e c.requires.job.2 in
    let back : c.args.count - 1 + 1 ≡ c.args.count = omega (arith, some) in
    last_same c.args.source.now.scope.now c.args.source.now.nodes.now c.args.sort c.args.name (c.args.count - 1) c.args.count c.args.id c.in-Apply.a c.in-Apply.b c.in-Some.argument c.args.jobs.now.items _ _ c.requires.job e back
    (ap (λ o. slice_get (argument_sorts c.args.sort o) (c.args.count - 1)) (sym c.meaning_at-stands_for.ensures) ∙ sym c.in-Some.ensures) c.in_ok-push.ensures.items c.in_ok-push-2.ensures.items

pub returns-in_ok-push-2-clause-within : goal.returns-in_ok-push-2-clause-within
returns-in_ok-push-2-clause-within c =
    let e = c.get.ensures.tree ∙ ap (tree_of c.args.source.now.nodes.now) c.in-Apply.is in
    let below = subst (IsBelow c.args.id) c.in-Apply.is c.get.ensures.parts in
    let some : 1 ≤ c.args.count = some_there _ (tree_at c.args.source.now.nodes.now c.in-Apply.a) (tree_at c.args.source.now.nodes.now c.in-Apply.b) _ e c.requires.job.2 in
    let back : c.args.count - 1 + 1 ≡ c.args.count = omega (arith, some) in
    last_in c.args.source.now.scope.now c.args.source.now.nodes.now c.args.sort c.args.name (c.args.count - 1) c.args.count c.args.id c.in-Apply.a c.in-Apply.b c.in-Some.argument c.args.jobs.now.items _ _ c.requires.job below.0 below.1 e back c.requires.jobs c.in_ok-push.ensures.items c.in_ok-push-2.ensures.items

pub returns-in_ok-push-2-clause-enough : goal.returns-in_ok-push-2-clause-enough
returns-in_ok-push-2-clause-enough c =
    let e = c.get.ensures.tree ∙ ap (tree_of c.args.source.now.nodes.now) c.in-Apply.is in
    let some : 1 ≤ c.args.count = some_there _ (tree_at c.args.source.now.nodes.now c.in-Apply.a) (tree_at c.args.source.now.nodes.now c.in-Apply.b) _ e c.requires.job.2 in
    let back : c.args.count - 1 + 1 ≡ c.args.count = omega (arith, some) in
    last_enough c.args.sort c.args.name (c.args.count - 1) c.args.count c.args.id c.in-Apply.a c.in-Apply.b c.in-Some.argument c.args.jobs.now.items _ _ back c.in_ok-push.ensures.items c.in_ok-push-2.ensures.items
