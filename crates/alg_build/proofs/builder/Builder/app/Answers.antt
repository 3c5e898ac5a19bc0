use Rattle.std.proofs.Common.{refl}
use Rattle.alg_terms.specs.Tree.{App, of_list}
use Rattle.alg_expr.specs.Ids.{trees_at}
use Rattle.alg_build.proofs.Growing.{grown, sound-extends, makes_grown}
use Rattle.alg_build.proofs.builder.Builder.app.Goals as goal
use Rattle.alg_build.proofs.builder.Builder.app.Goals.{in-Ok, in-Err}

pub invariant_of-self : goal.invariant_of-self
invariant_of-self c =
    sound-extends _ _ (grown _ _ (App c.args.sym c.args.sort (of_list (trees_at c.self.inside.arena c.args.args.now))) c.app.result c.app.ensures.ok c.app.ensures.err) c.self.invariant

pub returns-clause-ok : goal.returns-clause-ok
returns-clause-ok c =
    rw (← c.self.view_is)
    (elim c.match-app.branch [
      | in-Ok w ↦
          rw w.result-is
          (makes_grown _ c.app.new.self _ w.in-Ok.e (App c.args.sym c.args.sort (of_list (trees_at c.self.inside.arena c.args.args.now)))
          refl c.self.invariant w.in-Ok.ensures.ok)
      | in-Err w ↦ rw w.result-is tt
    ])
