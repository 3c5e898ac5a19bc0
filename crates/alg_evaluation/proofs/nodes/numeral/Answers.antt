use Rattle.std.proofs.Common.{map}
use Rattle.alg_terms.specs.Tree.{sort_of_tree}
use Rattle.alg_build.proofs.Lines.{grows-then}
use Rattle.alg_build.proofs.Rewritings.{follows, grows-turns}
use Rattle.alg_value_laws.specs.Places.{sorts_over}
use Rattle.alg_arithmetic.specs.Evaluating.{signed_trees}
use Rattle.alg_evaluation.specs.Applied.{IsNumbered}
use Rattle.alg_evaluation.proofs.Finding.{evaluates, numerals_turn}
use Rattle.alg_evaluation.proofs.Parting.{its_heads, numeral_parts}
use Rattle.alg_evaluation.proofs.nodes.numeral.Goals as goal

pub under-requires : goal.under-requires
under-requires c =
    let n = c.requires.numbered.1 in
    rw (c.deref.ensures.value, c.in_ok-turned.ensures) (numeral_parts c.requires.numbered.0 c.args.cx.now c.args.head n.applied.trees n.applied.stands c.args.parts.now c.args.ps.now n.applied.found n.numbers)

pub evaluated-requires : goal.evaluated-requires
evaluated-requires c = evaluates c.requires.numbered.0 c.args.cx.now c.args.head c.args.parts.now c.args.ps.now c.requires.numbered.1 c.args.z.now c.requires.value c.under.new.cx c.under.ensures.grows

pub then-requires : goal.then-requires
then-requires c =
    let n = c.requires.numbered.1 in
    let a = n.applied in
    let first = c.in_ok-over.ensures.turns c.args.head.sort (map sort_of_tree a.trees) a.trees (signed_trees (sorts_over c.args.head.sym c.args.head.sort) c.args.ps.now) a.stands
    (rw (c.deref.ensures.value, c.in_ok-turned.ensures) (numerals_turn c.requires.numbered.0 c.args.cx.now c.args.head c.args.parts.now c.args.ps.now n c.args.z.now c.requires.value))
    (its_heads c.requires.numbered.0 c.args.cx.now c.args.head a.trees a.stands) in
    follows _ _ _ _ _ _ _ (grows-turns _ _ c.evaluated.ensures.grows _ _ _ _ first) c.in_ok-line.ensures.turns

pub returns-clause-turns : goal.returns-clause-turns
returns-clause-turns c covers a =
    let n : IsNumbered covers c.args.cx.now c.args.head c.args.parts.now c.args.ps.now = record { applied = a; numbers = c.requires.numbered.1.numbers } in
    let first = c.in_ok-over.ensures.turns c.args.head.sort (map sort_of_tree a.trees) a.trees (signed_trees (sorts_over c.args.head.sym c.args.head.sort) c.args.ps.now) a.stands
    (rw (c.deref.ensures.value, c.in_ok-turned.ensures) (numerals_turn covers c.args.cx.now c.args.head c.args.parts.now c.args.ps.now n c.args.z.now c.requires.value))
    (its_heads covers c.args.cx.now c.args.head a.trees a.stands) in
    c.in_ok-r.ensures.turns _ _ _ _ (grows-turns _ _ c.evaluated.ensures.grows _ _ _ _ first) c.in_ok-line.ensures.turns

pub returns-in_err-line-clause-grows : goal.returns-in_err-line-clause-grows
returns-in_err-line-clause-grows c = grows-then _ _ _ c.under.ensures.grows c.evaluated.ensures.grows

pub returns-in_err-r-clause-grows : goal.returns-in_err-r-clause-grows
returns-in_err-r-clause-grows c = grows-then _ _ _ (grows-then _ _ _ c.under.ensures.grows c.evaluated.ensures.grows) c.then.ensures.grows

pub returns-clause-grows : goal.returns-clause-grows
returns-clause-grows c = grows-then _ _ _ (grows-then _ _ _ c.under.ensures.grows c.evaluated.ensures.grows) c.then.ensures.grows
