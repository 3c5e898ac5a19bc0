use Rattle.alg_build.proofs.Concluding.{keeps_then}
use Rattle.alg_build.proofs.CongruenceLemmas.{over_arity, over_sorts, right_in, right_arity, right_sorts, over_equation}
use Rattle.alg_build.proofs.builder.Builder.over_both.Goals as goal

pub app-requires-clause-arity : goal.app-requires-clause-arity
app-requires-clause-arity c = over_arity c.args.self.now.theory.declarations c.args.self.now.trees c.args.sym c.args.sort c.args.lefts.now c.requires.fits

pub app-requires-clause-sorts : goal.app-requires-clause-sorts
app-requires-clause-sorts c = over_sorts c.args.self.now.theory.declarations c.args.self.now.trees c.args.sym c.args.sort c.args.lefts.now c.requires.fits

pub app-requires-2-clause-here : goal.app-requires-2-clause-here
app-requires-2-clause-here c = right_in c.args.self.now c.app.new.self c.args.sym c.args.sort c.args.lefts.now c.args.rights.now c.in_ok-lhs.lhs c.requires.right_in c.in_ok-lhs.ensures.ok

pub app-requires-2-clause-arity : goal.app-requires-2-clause-arity
app-requires-2-clause-arity c =
    right_arity c.args.self.now c.app.new.self c.args.sym c.args.sort c.args.lefts.now c.args.rights.now c.in_ok-lhs.lhs c.requires.right_in c.in_ok-lhs.ensures.ok c.requires.even c.requires.fits

pub app-requires-2-clause-sorts : goal.app-requires-2-clause-sorts
app-requires-2-clause-sorts c =
    right_sorts c.args.self.now c.app.new.self c.args.sym c.args.sort c.args.lefts.now c.args.rights.now c.in_ok-lhs.lhs c.requires.right_in c.in_ok-lhs.ensures.ok c.requires.even c.requires.fits

pub returns-clause-statement : goal.returns-clause-statement
returns-clause-statement c =
    over_equation c.args.self.now c.app.new.self c.args.sym c.args.sort c.args.lefts.now c.args.rights.now c.in_ok-lhs.lhs c.requires.right_in c.in_ok-lhs.ensures.ok c.app-2.new.self c.in_ok-rhs.rhs c.equation.result
    c.in_ok-rhs.ensures.ok c.equation.ensures.statement

pub returns-clause-keeps : goal.returns-clause-keeps
returns-clause-keeps c = keeps_then _ _ _ c.in_ok-lhs.ensures.ok.keeps c.in_ok-rhs.ensures.ok.keeps
