use Rattle.alg_expr.specs.Ids.{tree_of}
use Rattle.alg_group_found.proofs.ReachLemmas.{power-raised, raised-large, raised-letters, raised-out}
use Rattle.alg_group_found.proofs.powers.reach_of_power.Goals as goal

pub power-requires-clause-letters : goal.power-requires-clause-letters
power-requires-clause-letters c = (raised-letters _ _ _ _ (power-raised c.args.cx.now.theory.declarations c.args.h.sort (tree_of c.args.cx.now.trees c.args.a) (tree_of c.args.cx.now.trees c.args.k.exponent) c.args.k.number c.requires.number c.requires.exponent.fits) _ (c.in-Some.ensures c.args.cx.now.theory.declarations c.args.cx.now c.args.h (tree_of c.args.cx.now.trees c.args.a) c.requires.part))

pub returns-in-None-clause-reached : goal.returns-in-None-clause-reached
returns-in-None-clause-reached c = raised-out _ _ _ _ (power-raised c.args.cx.now.theory.declarations c.args.h.sort (tree_of c.args.cx.now.trees c.args.a) (tree_of c.args.cx.now.trees c.args.k.exponent) c.args.k.number c.requires.number c.requires.exponent.fits) (c.in-None.ensures c.args.cx.now.theory.declarations c.args.cx.now c.args.h (tree_of c.args.cx.now.trees c.args.a) c.requires.part)

pub returns-in-Large-clause-reached : goal.returns-in-Large-clause-reached
returns-in-Large-clause-reached c = raised-large _ _ _ _ (power-raised c.args.cx.now.theory.declarations c.args.h.sort (tree_of c.args.cx.now.trees c.args.a) (tree_of c.args.cx.now.trees c.args.k.exponent) c.args.k.number c.requires.number c.requires.exponent.fits) _ (raised-letters _ _ _ _ (power-raised c.args.cx.now.theory.declarations c.args.h.sort (tree_of c.args.cx.now.trees c.args.a) (tree_of c.args.cx.now.trees c.args.k.exponent) c.args.k.number c.requires.number c.requires.exponent.fits) _ (c.in-Some.ensures c.args.cx.now.theory.declarations c.args.cx.now c.args.h (tree_of c.args.cx.now.trees c.args.a) c.requires.part)) (rw c.in-Large.is at c.requires.part).large
