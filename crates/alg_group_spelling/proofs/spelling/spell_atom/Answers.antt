use Rattle.alg_build.proofs.Rewritings.{grows-stands}
use Rattle.alg_group_stack.proofs.Homes.{own-stands}
use Rattle.alg_group_spelling.proofs.RaiseLemmas.{atom-placed, spells-of}
use Rattle.alg_group_spelling.proofs.spelling.spell_atom.Goals as goal

pub from_atom-requires-clause-base : goal.from_atom-requires-clause-base
from_atom-requires-clause-base c = own-stands _ _ _ _ (grows-stands _ _ c.power.ensures.grows _ _ _ c.requires.base)

pub from_atom-requires-clause-power : goal.from_atom-requires-clause-power
from_atom-requires-clause-power c = rw (grows-stands _ _ c.power.ensures.grows _ _ _ c.requires.base).tree c.in_ok-first.ensures.stands

pub returns-clause-spells : goal.returns-clause-spells
returns-clause-spells c = spells-of _ _ _ _ _ (atom-placed _ _ _ _ _ _ _ _ c.power.ensures.grows c.from_atom.ensures.grows c.requires.base c.in_ok-first.ensures.stands c.in_ok-turns.ensures.turns (rw c.new-word.ensures.items at c.in_ok-push.ensures.items))

pub returns-clause-pairs : goal.returns-clause-pairs
returns-clause-pairs c = (atom-placed _ _ _ _ _ _ _ _ c.power.ensures.grows c.from_atom.ensures.grows c.requires.base c.in_ok-first.ensures.stands c.in_ok-turns.ensures.turns (rw c.new-word.ensures.items at c.in_ok-push.ensures.items)).pairs
