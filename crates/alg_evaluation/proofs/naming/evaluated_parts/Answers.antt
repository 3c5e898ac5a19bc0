use Rattle.std.proofs.Common.{map}
use Rattle.alg_terms.specs.Tree.{sort_of_tree}
use Rattle.alg_build.proofs.ListLemmas.{all-rewriting}
use Rattle.alg_values.specs.Setting.{setting}
use Rattle.alg_values.specs.Normal.{normal}
use Rattle.alg_evaluation.proofs.Asking.{is_over, its_numbers, lines_length}
use Rattle.alg_evaluation.proofs.Parting.{shown_turn}
use Rattle.alg_evaluation.proofs.naming.evaluated_parts.Goals as goal

pub lines_of-requires : goal.lines_of-requires
lines_of-requires c =
    let n = c.requires.numbered.1 in
    rw (c.deref.ensures.value, c.in_ok-turned.ensures) (all-rewriting _ _ _ _ _ (shown_turn c.requires.numbered.0 c.args.cx.now n.applied.trees c.args.parts.now n.applied.found))

pub joined-requires : goal.joined-requires
joined-requires c =
    let n = c.requires.numbered.1 in
    let l = c.in_ok-lines.ensures.prove (map sort_of_tree n.applied.trees) n.applied.trees (map (normal (setting c.args.cx.now.theory.declarations c.requires.numbered.0)) n.applied.trees)
    (rw (c.deref.ensures.value, c.in_ok-turned.ensures) (shown_turn c.requires.numbered.0 c.args.cx.now n.applied.trees c.args.parts.now n.applied.found)) in
    rw c.as_slice.ensures.value (lines_length c.requires.numbered.0 c.args.cx.now c.lines_of.new.cx c.lines_of.ensures.grows c.args.head c.args.parts.now c.args.ps.now n _ l)

pub returns-clause-over : goal.returns-clause-over
returns-clause-over c =
    let n = c.requires.numbered.1 in
    let l = c.in_ok-lines.ensures.prove (map sort_of_tree n.applied.trees) n.applied.trees (map (normal (setting c.args.cx.now.theory.declarations c.requires.numbered.0)) n.applied.trees)
    (rw (c.deref.ensures.value, c.in_ok-turned.ensures) (shown_turn c.requires.numbered.0 c.args.cx.now n.applied.trees c.args.parts.now n.applied.found)) in
    rw (c.in_ok-args.ensures, c.as_slice.ensures.value) (is_over c.requires.numbered.0 c.args.cx.now c.lines_of.new.cx c.lines_of.ensures.grows c.args.head c.args.parts.now c.args.ps.now n _ l)

pub returns-clause-numbers : goal.returns-clause-numbers
returns-clause-numbers c =
    let n = c.requires.numbered.1 in
    let l = c.in_ok-lines.ensures.prove (map sort_of_tree n.applied.trees) n.applied.trees (map (normal (setting c.args.cx.now.theory.declarations c.requires.numbered.0)) n.applied.trees)
    (rw (c.deref.ensures.value, c.in_ok-turned.ensures) (shown_turn c.requires.numbered.0 c.args.cx.now n.applied.trees c.args.parts.now n.applied.found)) in
    rw (c.in_ok-args.ensures, c.as_slice.ensures.value) (its_numbers c.requires.numbered.0 c.args.cx.now c.lines_of.new.cx c.lines_of.ensures.grows c.args.head c.args.parts.now c.args.ps.now n _ l)
