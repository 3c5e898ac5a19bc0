use Rattle.std.proofs.Common.{sym}
use Rattle.alg_show.proofs.ArgumentLemmas.{argument_got}
use Rattle.alg_show.proofs.printing.argument.Goals as goal

pub returns-in-App-clause-there : goal.returns-in-App-clause-there
returns-in-App-clause-there c = argument_got _ _ _ _ _ _ _ c.requires c.in-App.ensures.shows (sym c.item.ensures.item)
