use Rattle.std.proofs.Common.{◌+◌, ◌-◌, length, get_or, false, ap}
use Rattle.alg_terms.specs.declared.symbols.Place.{Place}
use Rattle.std.proofs.Common.{List}
use Rattle.alg_kernel.proofs.LetterLemmas.{app-read}
use Rattle.alg_kernel.proofs.letters.flag_node.Goals as goal

pub returns-in-App-clause-flags : goal.returns-in-App-clause-flags
returns-in-App-clause-flags c = λ k ns h. rw c.in-App.is (app-read c.args.due c.requires.some k _ c.in-App.sym c.in-App.sort ns (get_or c.args.flags.now k false) (ap (λ (ps : List Place). c.args.due - 1 + length ps) c.places.ensures))
