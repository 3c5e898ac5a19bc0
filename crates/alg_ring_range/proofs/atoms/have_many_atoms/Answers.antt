use Rattle.std.proofs.Common.{◌∙◌}
use Rattle.alg_expr.specs.Ids.{trees_at}
use Rattle.alg_expansions.specs.Setting.{setting_of}
use Rattle.alg_ring_range.proofs.AtomsAgreement.{many-agree}
use Rattle.alg_ring_range.proofs.atoms.have_many_atoms.Goals as goal

pub returns : goal.returns
returns c = c.in_ok-many.ensures ∙ many-agree (setting_of c.args.base.now) (trees_at c.args.arena.now c.args.roots.now)
