use Rattle.std.proofs.Common.{refl}
use Rattle.alg_commands.proofs.Kept.{token_kept}
use Rattle.alg_commands.proofs.pieces.Piece.add_token.Goals as goal

pub returns : goal.returns
returns c = λ first items k. token_kept first items c.args.token c.args.self.now _ c.in_ok-keep.ensures refl refl k
