use Rattle.alg_certificate.proofs.Pieces.{written_node}
use Rattle.alg_certificate.proofs.Ranges.{node_in_range}
use Rattle.alg_certificate.proofs.trees.begin_tree.Goals as goal

pub returns-in_ok-push-in-App-clause-written : goal.returns-in_ok-push-in-App-clause-written
returns-in_ok-push-in-App-clause-written c = written_node _ _ _ _ c.in-App.args _ _ _ _ _ c.in-App.ensures.shows.0 c.in_ok-put-in-App.ensures c.in_ok-put_symbol-in-App.ensures.written c.in_ok-push-in-App.ensures.items

pub returns-in_ok-push-in-App-clause-in_range : goal.returns-in_ok-push-in-App-clause-in_range
returns-in_ok-push-in-App-clause-in_range c = node_in_range c.args.arena.now _ _ _ c.in-App.args _ _ c.in-App.ensures.shows.0 c.in_ok-put_symbol-in-App.ensures.in_range c.in_ok-push-in-App.ensures.items
