use Rattle.std.proofs.Common.{arith, length, ap}
use Rattle.alg_syntax.proofs.NodeLemmas.{length-trees_of, node_at}
use Rattle.alg_syntax.proofs.nodes.Nodes.get.Goals as goal

pub index-requires : goal.index-requires
index-requires c = omega (arith, ap length c.self.view_is, length-trees_of c.self.inside.items.items, c.self.inside.items.ok.0)

pub returns-clause-tree : goal.returns-clause-tree
returns-clause-tree c = (node_at c.self.inside.items.items c.args.self.now c.args.id c.index.result.now c.self.view_is c.self.invariant c.requires c.index.ensures).0

pub returns-clause-parts : goal.returns-clause-parts
returns-clause-parts c = (node_at c.self.inside.items.items c.args.self.now c.args.id c.index.result.now c.self.view_is c.self.invariant c.requires c.index.ensures).1
