use Rattle.std.proofs.Common.{arith, ap, sym, ◌∙◌}
use Rattle.alg_expr.specs.Ids.{tree_of}
use Rattle.alg_group_words.specs.Syllables.{raised_runs}
use Rattle.alg_group_found.proofs.ReachLemmas.{count-within, integer_power-raised, raised-counted, raised-long, raised-room, raised-runs}
use Rattle.alg_group_found.proofs.words.integer_power.Goals as goal

pub returns-then-is_long_power-clause-reached : goal.returns-then-is_long_power-clause-reached
returns-then-is_long_power-clause-reached c = raised-long _ _ _ _ (integer_power-raised _ _ _ _ _ c.requires.number c.requires.exponent.fits) _ c.requires.letters _ _ _ c.requires.part (rw c.length_of.ensures at (sym c.is_long_power.ensures ∙ c.if-is_long_power.true))

pub spell_integer_power-requires-clause-part : goal.spell_integer_power-requires-clause-part
spell_integer_power-requires-clause-part c = c.requires.part.spells

pub spell_integer_power-requires-clause-runs : goal.spell_integer_power-requires-clause-runs
spell_integer_power-requires-clause-runs c = raised-runs _ _ _ _ (integer_power-raised _ _ _ _ _ c.requires.number c.requires.exponent.fits) _ c.requires.letters _ _ _ c.requires.part

pub spell_integer_power-requires-clause-exponent : goal.spell_integer_power-requires-clause-exponent
spell_integer_power-requires-clause-exponent c = rw c.requires.integral at c.requires.exponent.turns

pub spell_integer_power-requires-clause-small : goal.spell_integer_power-requires-clause-small
spell_integer_power-requires-clause-small c = c.requires.exponent.small

pub spell_integer_power-requires-clause-room : goal.spell_integer_power-requires-clause-room
spell_integer_power-requires-clause-room c = raised-room _ _ _ _ (integer_power-raised _ _ _ _ _ c.requires.number c.requires.exponent.fits) _ c.requires.letters _ _ _ c.requires.part

pub counted-requires : goal.counted-requires
counted-requires c = omega (arith, c.requires.part.count, count-within c.args.cx.now.theory.declarations (tree_of c.args.cx.now.trees c.args.a) c.requires.part.large)

pub returns-clause-reached : goal.returns-clause-reached
returns-clause-reached c =
    c.counted.ensures _ _ _ _ (raised-counted _ _ _ _ (integer_power-raised _ _ _ _ _ c.requires.number c.requires.exponent.fits) _ c.requires.letters _ _ _ c.requires.part _ _ (rw c.length_of.ensures at (sym c.is_long_power.ensures ∙ c.if-is_long_power.false)) c.in_ok-q.ensures.spells
    (c.in_ok-q.ensures.pairs ∙ ap (λ ps. raised_runs ps c.args.k.number) c.requires.part.pairs ∙ sym (integer_power-raised _ _ _ _ _ c.requires.number c.requires.exponent.fits).syllables))
