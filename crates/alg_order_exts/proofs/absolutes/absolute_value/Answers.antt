use Rattle.std.proofs.Common.{ap, sym, ◌∙◌, subst}
use Rattle.alg_expr.proofs.ArenaLaws.{IsIn-extends, tree_of-extends}
use Rattle.alg_fractions.specs.Fractions.{HasFraction}
use Rattle.alg_num.specs.Fraction.{Fraction}
use Rattle.alg_values.specs.declared.value.Value.{Value}
use Rattle.alg_values.specs.declared.value.Value.TheVariants.{Num}
use Rattle.alg_exts.specs.Valuing.{GivesValue}
use Rattle.alg_order_exts.proofs.Calls.{absolute-valued, absolute-part, absolute-ring, absolute-ordered, absolute-heads, absolute-value}
use Rattle.alg_order_exts.proofs.absolutes.absolute_value.Goals as goal

pub absolute_of_part-requires-clause-valued : goal.absolute_of_part-requires-clause-valued
absolute_of_part-requires-clause-valued c = absolute-valued _ _ _ _ c.requires.over

pub absolute_of_part-requires-clause-sort : goal.absolute_of_part-requires-clause-sort
absolute_of_part-requires-clause-sort c = absolute-part _ _ _ _ c.requires.over

pub absolute_of_part-requires-clause-heads : goal.absolute_of_part-requires-clause-heads
absolute_of_part-requires-clause-heads c = absolute-heads _ _ _ _ c.requires.over

pub absolute_of_part-requires-clause-ring : goal.absolute_of_part-requires-clause-ring
absolute_of_part-requires-clause-ring c = absolute-ring _ _ _ _ c.requires.over

pub absolute_of_part-requires-clause-ordered : goal.absolute_of_part-requires-clause-ordered
absolute_of_part-requires-clause-ordered c = absolute-ordered _ _ _ _ c.requires.over

pub found-requires-clause-here : goal.found-requires-clause-here
found-requires-clause-here c = IsIn-extends _ _ _ c.in_ok-r.ensures.grows.trees c.requires.over.here

pub found-requires-clause-turns : goal.found-requires-clause-turns
found-requires-clause-turns c = rw (tree_of-extends _ _ _ c.in_ok-r.ensures.grows.trees c.requires.over.here, c.requires.over.tree, c.absolute-value.ensures) c.in_ok-r.ensures.turns

pub found-requires-clause-has : goal.found-requires-clause-has
found-requires-clause-has c = subst (λ (p : Fraction). HasFraction c.absolute_of_part.new.cx c.args.sort p) (sym c.absolute-value.ensures) c.in_ok-r.ensures.has

pub returns-clause-gives : goal.returns-clause-gives
returns-clause-gives c = subst (λ (v : Value). GivesValue c.found.new.cx c.args.e c.found.result v) (ap Num c.absolute-value.ensures ∙ sym (absolute-value _ _ _ _ c.requires.over)) c.found.ensures.gives
