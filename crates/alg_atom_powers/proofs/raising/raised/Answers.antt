use Rattle.alg_terms.specs.declared.symbols.Sym.TheVariants.{Npow}
use Rattle.alg_terms.specs.declared.sorts.Sort.TheVariants.{Nat}
use Rattle.alg_build.proofs.Rewritings.{is-rewriting, stands-over}
use Rattle.alg_build.proofs.HeadFacts.{npow-heads}
use Rattle.alg_atom_powers.proofs.raising.raised.Goals as goal

pub under_two-requires : goal.under_two-requires
under_two-requires c = stands-over _ Npow _ c.args.sort Nat _ _ _ _ _ _ (c.keep-base.ensures _ _ c.requires.x_in) c.requires.exponent.turns (npow-heads _ c.args.sort c.requires.ready.known c.requires.ready.monoid)

pub with_line-requires : goal.with_line-requires
with_line-requires c = is-rewriting _ _ _ _ _ (c.in_ok-r.ensures.turns c.args.sort Nat _ _ _ _ (c.keep-base.ensures _ _ c.requires.x_in) c.requires.exponent.turns (npow-heads _ c.args.sort c.requires.ready.known c.requires.ready.monoid))

pub returns-clause-derives : goal.returns-clause-derives
returns-clause-derives c = λ t u h. c.in_ok-made.ensures.derives _ _ _ (c.in_ok-r.ensures.turns c.args.sort Nat _ _ _ _ (c.keep-base.ensures _ _ c.requires.x_in) h (npow-heads _ c.args.sort c.requires.ready.known c.requires.ready.monoid))
