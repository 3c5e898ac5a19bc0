use Rattle.std.proofs.Common.{◌≡◌, sym, subst}
use Rattle.std.specs.Prelude.{OnOk}
use Rattle.alg_law.specs.Declarations.{declaration_of}
use Rattle.alg_law.specs.declared.declarations.Declared.{Declared}
use Rattle.alg_names.specs.Entering.{enter}
use Rattle.alg_names.proofs.scope.Scope.enter.Goals as goal

pub returns-in-Hypothesis-clause-ok : goal.returns-in-Hypothesis-clause-ok
returns-in-Hypothesis-clause-ok c =
    subst (λ (d : Declared). OnOk c.enter_hypothesis.result (c.enter_hypothesis.new.self ≡ enter c.args.self.now (declaration_of c.args.arena.now d))) (sym c.in-Hypothesis.is) (c.enter_hypothesis.ensures.ok c.args.arena.now)
