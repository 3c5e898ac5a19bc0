use Rattle.std.proofs.Common.{refl}
use Rattle.alg_terms.specs.declared.symbols.Sym.TheVariants.{Inv}
use Rattle.alg_expr.specs.Ids.{tree_of}
use Rattle.alg_ring_range.proofs.Plans.{not_one}
use Rattle.alg_ring_range.proofs.atoms.is_inverse.Goals as goal

pub returns-in-None-clause-no : goal.returns-in-None-clause-no
returns-in-None-clause-no c = λ no same.
    not_one c.args.arena.now (tree_of c.args.arena.now c.args.e) (tree_of c.args.arena.now c.args.b) c.in-App.sym Inv c.in-App.sort c.args.s c.in-App.args.now c.in-App.ensures.shows.0 (c.in-None.ensures.none refl) same
