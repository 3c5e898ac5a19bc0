use Rattle.alg_build.proofs.Rewritings.{concluded}
use Rattle.alg_build.proofs.ListLemmas.{all_equations, all_fit, all_there, all_prove}
use Rattle.alg_build.proofs.over_parts.over_all.Goals as goal

pub cong-requires-clause-equations : goal.cong-requires-clause-equations
cong-requires-clause-equations c = all_equations _ c.args.sym _ _ _ c.requires.prove

pub cong-requires-clause-fits : goal.cong-requires-clause-fits
cong-requires-clause-fits c = all_fit _ _ _ _ _ c.requires.prove _ c.requires.heads

pub concluded-requires : goal.concluded-requires
concluded-requires c = all_there _ _ _ _ _ c.requires.prove _ c.requires.heads _ _ c.in_ok-line.ensures.adds

pub returns-clause-turns : goal.returns-clause-turns
returns-clause-turns c s xs ys h k = concluded _ _ _ _ _ (all_prove _ _ _ xs ys h s k _ _ c.in_ok-line.ensures.adds) c.concluded.ensures.here c.concluded.ensures.statement c.concluded.ensures.fine
