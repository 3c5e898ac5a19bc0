use Rattle.std.proofs.lemmas.Int.{to_z_pos}
use Rattle.std.specs.Int.{w128}
use Rattle.alg_fraction_products.proofs.SignTrees.{whole-number}
use Rattle.alg_fraction_products.proofs.multiples.whole_fraction.Goals as goal

pub whole-requires : goal.whole-requires
whole-requires c = rw (to_z_pos w128 _ c.requires) c.requires

pub returns : goal.returns
returns c = whole-number _ c.requires _ c.whole.ensures
