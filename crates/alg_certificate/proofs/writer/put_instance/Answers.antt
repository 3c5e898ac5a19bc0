use Rattle.alg_certificate.proofs.Pieces.{instance_text}
use Rattle.alg_certificate.proofs.writer.put_instance.Goals as goal

pub returns-clause-written : goal.returns-clause-written
returns-clause-written c = instance_text _ c.args.from.now _ _ _ _ c.in_ok-put_trees.ensures.written c.in_ok-put.ensures c.in_ok-put_numbers.ensures
