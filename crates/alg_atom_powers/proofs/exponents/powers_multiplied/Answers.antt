use Rattle.alg_terms.specs.declared.sorts.Sort.TheVariants.{Nat}
use Rattle.alg_terms.specs.declared.symbols.Sym.TheVariants.{Add}
use Rattle.alg_build.proofs.Lines.{grows-then}
use Rattle.alg_build.proofs.Rewritings.{grows-stands}
use Rattle.alg_numerals.proofs.LiteralLemmas.{combined-turns}
use Rattle.alg_node_sums.proofs.Deriving.{stays}
use Rattle.alg_atom_powers.proofs.Powers.{own_exponents}
use Rattle.alg_atom_powers.proofs.exponents.powers_multiplied.Goals as goal

pub returns-in_err-power-clause-grows : goal.returns-in_err-power-clause-grows
returns-in_err-power-clause-grows c = grows-then _ _ _ c.sum.ensures.grows c.raised.ensures.grows

pub multiplied-requires-clause-power : goal.multiplied-requires-clause-power
multiplied-requires-clause-power c = let w = c.in_ok-q.ensures.combines in
    own_exponents c.args.cx.now c.sum.new.cx c.raised.new.cx c.args.sort Add c.in_ok-q.q c.args.x _ _ _ c.in_ok-power.power c.sum.ensures.grows c.raised.ensures.grows c.requires.x_in w (c.in_ok-power.ensures.derives _ _ (combined-turns c.sum.new.cx Add Nat c.in_ok-q.q _ _ _ w))

pub returns-in_err-made-clause-grows : goal.returns-in_err-made-clause-grows
returns-in_err-made-clause-grows c = grows-then _ _ _ c.sum.ensures.grows (grows-then _ _ _ c.raised.ensures.grows c.multiplied.ensures.grows)

pub returns-clause-grows : goal.returns-clause-grows
returns-clause-grows c = grows-then _ _ _ c.sum.ensures.grows (grows-then _ _ _ c.raised.ensures.grows c.multiplied.ensures.grows)

pub returns-clause-derives : goal.returns-clause-derives
returns-clause-derives c =
    let g = c.sum.ensures.grows in
    let k = c.raised.ensures.grows in
    let w = c.in_ok-q.ensures.combines in
    let p = c.in_ok-power.ensures.derives _ _ (combined-turns c.sum.new.cx Add Nat c.in_ok-q.q _ _ _ w) in
    rw (stays c.args.cx.now c.raised.new.cx c.args.sort c.args.x _ (grows-then _ _ _ g k) c.requires.x_in, (grows-stands _ _ k _ _ _ w.first).tree, (grows-stands _ _ k _ _ _ w.second).tree, p.stands.tree, stays c.args.cx.now c.sum.new.cx c.args.sort c.args.x _ g c.requires.x_in) at c.in_ok-made.ensures.derives
