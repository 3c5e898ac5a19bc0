use Rattle.alg_show.proofs.Levels.{literal_level, variable_level, compound_level}
use Rattle.alg_show.proofs.statements.level_of.Goals as goal

pub returns-in-Lit : goal.returns-in-Lit
returns-in-Lit c = literal_level _ _ _ c.in-Lit.ensures.shows

pub returns-in-Var : goal.returns-in-Var
returns-in-Var c = variable_level _ _ _ c.in-Var.ensures.shows

pub returns-in-App : goal.returns-in-App
returns-in-App c = compound_level _ _ _ _ _ _ c.in-App.ensures.shows.0 c.notation_of.ensures c.compound_level.ensures
