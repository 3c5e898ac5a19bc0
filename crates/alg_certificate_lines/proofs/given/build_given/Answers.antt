use Rattle.std.proofs.Common.{subst}
use Rattle.alg_certificate_lines.specs.Given.{Gives}
use Rattle.alg_certificate_lines.proofs.ReadBackLaws.{statement_back}
use Rattle.alg_certificate_lines.proofs.GivenLaws.{cut_parts, no_cut}
use Rattle.alg_certificate_lines.proofs.given.build_given.Goals as goal

pub returns-in-Some-clause-gives : goal.returns-in-Some-clause-gives
returns-in-Some-clause-gives c = λ s f e.
    let p = cut_parts s c.args.text.now c.in-Some.rel c.in-Some.word.now c.in-Some.trees.now f e c.in-Some.ensures in
    c.read_given.ensures.gives s f p.0 p.1 p.2

pub returns-in-None-clause-gives : goal.returns-in-None-clause-gives
returns-in-None-clause-gives c = λ s f e. absurd (no_cut s c.args.text.now f e c.in-None.ensures)

pub returns-in-Some-clause-back : goal.returns-in-Some-clause-back
returns-in-Some-clause-back c = λ s few h f e.
    let p = cut_parts s c.args.text.now c.in-Some.rel c.in-Some.word.now c.in-Some.trees.now f e c.in-Some.ensures in
    subst (λ o. Gives c.read_given.new.arena o c.read_given.result) (statement_back c.args.base.now s few h) (c.read_given.ensures.gives s f p.0 p.1 p.2)

pub returns-in-None-clause-back : goal.returns-in-None-clause-back
returns-in-None-clause-back c = λ s few h f e. absurd (no_cut s c.args.text.now f e c.in-None.ensures)
