use Rattle.std.proofs.lemmas.Result.{IfOk-weaker}
use Rattle.alg_words.proofs.Matching.{app_with}
use Rattle.alg_words.proofs.command.command.Goals as goal

pub returns : goal.returns
returns c =
    let one = app_with _ _ _ _ _ c.in_ok-arg.ensures c.needed-mode.ensures.local c.new.ensures.app c.needed-mode.ensures.rule in
    let two = app_with _ _ _ _ _ c.in_ok-arg-2.ensures c.needed-first.ensures.local one c.needed-first.ensures.rule in
    let three = app_with _ _ _ _ _ c.in_ok-arg-3.ensures c.positional-second.ensures.local two c.positional-second.ensures.rule in
    let four = app_with _ _ _ _ _ c.in_ok-arg-4.ensures c.option-cert.ensures.local three c.option-cert.ensures.rule in
    IfOk-weaker c.arg-5.result _ _ (λ command added. app_with _ _ _ _ _ added c.option-without.ensures.local four c.option-without.ensures.rule) c.arg-5.ensures
