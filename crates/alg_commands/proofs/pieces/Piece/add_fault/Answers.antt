use Rattle.alg_commands.proofs.Kept.{fault_later, fault_here}
use Rattle.alg_commands.proofs.pieces.Piece.add_fault.Goals as goal

pub returns-in-Some : goal.returns-in-Some
returns-in-Some c = λ first items k. fault_later first items c.args.fault c.in-Some.field-0 c.args.self.now c.in-Some.is k

pub returns-in-None : goal.returns-in-None
returns-in-None c = λ first items k. fault_here first items c.args.fault c.args.self.now c.in-None.is k
