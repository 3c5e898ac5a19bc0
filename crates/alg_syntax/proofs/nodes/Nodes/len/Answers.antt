use Rattle.std.proofs.Common.{arith, length, ap}
use Rattle.alg_syntax.proofs.NodeLemmas.{length-trees_of}
use Rattle.alg_syntax.proofs.nodes.Nodes.len.Goals as goal

pub returns : goal.returns
returns c = omega (arith, ap length c.self.view_is, length-trees_of c.self.inside.items.items, c.self.inside.items.ok.0, c.len.ensures)
