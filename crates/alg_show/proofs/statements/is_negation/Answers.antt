use Rattle.alg_show.proofs.Levels.{literal_minus, variable_minus, compound_minus}
use Rattle.alg_show.proofs.statements.is_negation.Goals as goal

pub returns-in-Lit : goal.returns-in-Lit
returns-in-Lit c = literal_minus _ _ _ c.in-Lit.ensures.shows

pub returns-in-Var : goal.returns-in-Var
returns-in-Var c = variable_minus _ _ _ c.in-Var.ensures.shows

pub returns-in-App : goal.returns-in-App
returns-in-App c = compound_minus _ _ _ _ _ _ c.in-App.ensures.shows.0 c.notation_of.ensures c.is_minus_sign.ensures
