use Rattle.std.proofs.Common.{subst}
use Rattle.alg_certificate_lines.specs.Steps.{GivesLine}
use Rattle.alg_certificate_lines.proofs.ReadBackLaws.{step_back}
use Rattle.alg_certificate_lines.proofs.LineLaws.{line_spelled, no_head}
use Rattle.alg_certificate_lines.proofs.lines.build_line.Goals as goal

pub returns-in-Some-clause-gives : goal.returns-in-Some-clause-gives
returns-in-Some-clause-gives c = λ l f e. c.read_line.ensures.gives l (line_spelled l c.args.text.now c.in-Some.kind c.in-Some.rest.now f e c.in-Some.ensures)

pub returns-in-None-clause-gives : goal.returns-in-None-clause-gives
returns-in-None-clause-gives c = λ l f e. absurd (no_head l c.args.text.now e c.in-None.ensures)

pub returns-in-Some-clause-back : goal.returns-in-Some-clause-back
returns-in-Some-clause-back c = λ l few m f e.
    subst (λ o. GivesLine c.read_line.new.arena o c.read_line.result) (step_back c.args.base.now l few m)
    (c.read_line.ensures.gives l (line_spelled l c.args.text.now c.in-Some.kind c.in-Some.rest.now f e c.in-Some.ensures))

pub returns-in-None-clause-back : goal.returns-in-None-clause-back
returns-in-None-clause-back c = λ l few m f e. absurd (no_head l c.args.text.now e c.in-None.ensures)
