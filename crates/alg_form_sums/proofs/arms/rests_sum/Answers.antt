use Rattle.std.proofs.Common.{refl}
use Rattle.alg_sums.specs.Rational.{rational}
use Rattle.alg_form_trees.proofs.FormTrees.{skip_tree}
use Rattle.alg_form_sums.proofs.Summing.{none_line, rests_done}
use Rattle.alg_form_sums.proofs.arms.rests_sum.Goals as goal

pub rests_alone-requires-clause-none : goal.rests_alone-requires-clause-none
rests_alone-requires-clause-none g c = let h = c.requires.parts in
    none_line (g.N.Constants.leaf c.args.sort) c.args.cx.now c.args.sort h.names h.number h.p h.o c.args.power h.q h.t c.args.pair c.args.rest c.args.other c.args.inner c.args.later h.nodes c.requires.none (c.told.ensures.zero c.args.sort)

pub returns-clause-line : goal.returns-clause-line
returns-clause-line g c = λ names k p o q t h.
    rests_done (g.N.Constants.leaf c.args.sort) c.args.cx.now _ c.args.sort names k p o c.args.power q t c.args.pair c.args.rest c.args.other c.args.inner c.args.later _ c.in_ok-made.made h c.in_ok-made.ensures.derives
    (skip_tree rational (g.N.Constants.leaf c.args.sort) c.args.sort names k 1 c.args.later.shown.form c.in_ok-form.form c.told-2.ensures.form c.told-3.ensures.form c.in_ok-form.ensures.map) refl refl
