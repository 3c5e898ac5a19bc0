use Rattle.std.proofs.Common.{arith}
use Rattle.std.specs.Str.{chars}
use Rattle.alg_lex.proofs.Pieces.{boundary, front_cut, rest_characters, utf8_cut, some_cut, number_bytes}
use Rattle.alg_lex.proofs.Steps.{piece_of_some}
use Rattle.alg_lex.proofs.scan.cut.Goals as goal

pub split_at-requires : goal.split_at-requires
split_at-requires c = boundary _ _ _ c.utf8.text c.scan-piece.ensures.leaves

pub returns-clause-front : goal.returns-clause-front
returns-clause-front c = front_cut _ _ _ _ c.scan-piece.ensures.leaves c.split_at.ensures.front

pub returns-clause-rest : goal.returns-clause-rest
returns-clause-rest c = rest_characters _ _ _ _ c.scan-piece.ensures.leaves c.split_at.ensures.back

pub returns-clause-some : goal.returns-clause-some
returns-clause-some c =
    omega (arith, c.split_at.ensures.front_len, some_cut _ _ _ c.scan-piece.ensures.leaves (piece_of_some c.args.text.now c.utf8.text c.requires))

pub returns-clause-utf8 : goal.returns-clause-utf8
returns-clause-utf8 c = utf8_cut _ _ _ _ c.utf8.text c.scan-piece.ensures.leaves c.split_at.ensures.back

pub returns-clause-digits : goal.returns-clause-digits
returns-clause-digits c = number_bytes (chars c.args.text.now) _ _ c.scan-piece.ensures.piece (front_cut _ _ _ _ c.scan-piece.ensures.leaves c.split_at.ensures.front)
