use Rattle.std.proofs.Common.{arith}
use Rattle.alg_certificate.proofs.LexingLaws.{front_within, cut_is}
use Rattle.alg_certificate.proofs.tokens.cut_word.Goals as goal

pub split_at-requires : goal.split_at-requires
split_at-requires c = omega (arith, front_within c.args.bytes.now)

pub returns : goal.returns
returns c = cut_is _ _ _ _ c.word_length-count.ensures (omega arith) c.split_at.ensures.front c.split_at.ensures.back
