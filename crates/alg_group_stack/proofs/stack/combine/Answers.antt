use Rattle.alg_build.proofs.Lines.{grows-then}
use Rattle.alg_build.proofs.Rewritings.{grows-stands, grows-turns, is-rewriting, target}
use Rattle.alg_group_stack.proofs.Homes.{own-stands}
use Rattle.alg_group_stack.proofs.stack.combine.Goals as goal

pub line_of-requires : goal.line_of-requires
line_of-requires c = is-rewriting _ _ _ _ _ c.in_ok-r.ensures.turns

pub node_mono-requires-clause-a_stands : goal.node_mono-requires-clause-a_stands
node_mono-requires-clause-a_stands c = own-stands _ _ _ _ (grows-stands _ _ (grows-then _ _ _ c.merged.ensures.grows c.line_of.ensures.grows) _ _ _ c.requires.before)

pub node_mono-requires-clause-b_stands : goal.node_mono-requires-clause-b_stands
node_mono-requires-clause-b_stands c = own-stands _ _ _ _ (grows-stands _ _ (grows-then _ _ _ c.merged.ensures.grows c.line_of.ensures.grows) _ _ _ c.requires.left.power)

pub node_mono-requires-clause-c_stands : goal.node_mono-requires-clause-c_stands
node_mono-requires-clause-c_stands c = own-stands _ _ _ _ (grows-stands _ _ (grows-then _ _ _ c.merged.ensures.grows c.line_of.ensures.grows) _ _ _ c.requires.right.power)

pub node_mono-requires-clause-d_stands : goal.node_mono-requires-clause-d_stands
node_mono-requires-clause-d_stands c = own-stands _ _ _ _ (target _ _ _ _ _ (grows-turns _ _ c.line_of.ensures.grows _ _ _ _ c.in_ok-r.ensures.turns))

pub node_mono-requires-clause-first_line : goal.node_mono-requires-clause-first_line
node_mono-requires-clause-first_line c =
    let g = grows-then _ _ _ c.merged.ensures.grows c.line_of.ensures.grows in
    let p = (grows-stands _ _ g _ _ _ c.requires.left.power).tree in
    let q = (grows-stands _ _ g _ _ _ c.requires.right.power).tree in
    let d = (target _ _ _ _ _ (grows-turns _ _ c.line_of.ensures.grows _ _ _ _ c.in_ok-r.ensures.turns)).tree in
    rw (p, q, d, ← c.requires.same) (c.in_ok-line.ensures.proves _ _ _ c.in_ok-r.ensures.turns)

pub returns-clause-power : goal.returns-clause-power
returns-clause-power c = grows-stands _ _ (grows-then _ _ _ c.line_of.ensures.grows c.node_mono.ensures.grows) _ _ _ (target _ _ _ _ _ c.in_ok-r.ensures.turns)

pub returns-clause-turns : goal.returns-clause-turns
returns-clause-turns c =
    let g = grows-then _ _ _ c.merged.ensures.grows c.line_of.ensures.grows in
    let a = (grows-stands _ _ g _ _ _ c.requires.before).tree in
    let p = (grows-stands _ _ g _ _ _ c.requires.left.power).tree in
    let q = (grows-stands _ _ g _ _ _ c.requires.right.power).tree in
    let d = (target _ _ _ _ _ (grows-turns _ _ c.line_of.ensures.grows _ _ _ _ c.in_ok-r.ensures.turns)).tree in
    rw (a, p, q, d) at c.in_ok-turns.ensures.turns
