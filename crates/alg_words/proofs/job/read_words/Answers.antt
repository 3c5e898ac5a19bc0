use Rattle.std.proofs.Common.{refl, map, string_bytes}
use Rattle.alg_words.proofs.Refusing.{asks_nothing}
use Rattle.alg_words.proofs.job.read_words.Goals as goal

pub returns-in-Err-Refused-clause-job : goal.returns-in-Err-Refused-clause-job
returns-in-Err-Refused-clause-job c =
    let refused = rw c.in-Err-Refused.field-0-is at c.in-Err-Refused.ensures.refused in
    asks_nothing (map (λ w. string_bytes w) c.args.words.now) (refused refl)
