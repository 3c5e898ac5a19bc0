use Rattle.std.proofs.Common.{rules, arith, sym, ◌∙◌, refl}
use Rattle.alg_certificate.proofs.ComingLaws.{at_end, at_fault, bad_line, good_line}
use Rattle.alg_certificate.proofs.LineLaws.{line_sound}
use Rattle.alg_certificate.specs.Reader.{seen_line}
use Rattle.alg_certificate.proofs.reader.CertReader.next.Goals as goal

pub returns-then-is_over-clause-comes : goal.returns-then-is_over-clause-comes
returns-then-is_over-clause-comes c = (sym c.self.view_is ∙ at_end _ _ _ c.in_default.ensures (search rules), refl)

pub returns-in_default-clause-comes : goal.returns-in_default-clause-comes
returns-in_default-clause-comes c = (sym c.self.view_is ∙ at_fault _ _ _ c.in_default.ensures (search rules), refl)

pub returns-in-None-clause-comes : goal.returns-in-None-clause-comes
returns-in-None-clause-comes c = (sym c.self.view_is ∙ bad_line _ _ _ _ _ _ c.in-Some.ensures.0 (sym c.in-None.ensures), refl)

pub returns-in-Some-line_in-clause-comes : goal.returns-in-Some-line_in-clause-comes
returns-in-Some-line_in-clause-comes c = sym c.self.view_is ∙ good_line _ _ _ _ _ _ _ _ c.in-Some.ensures.0 (sym c.in-Some-line_in.ensures) (omega (arith, c.in-Some.ensures.1, c.self.invariant))

pub returns-in-Some-line_in-clause-spelled : goal.returns-in-Some-line_in-clause-spelled
returns-in-Some-line_in-clause-spelled c = line_sound c.self.inside.state c.in-Some.text.now (seen_line c.in-Some-line_in.line, c.in-Some-line_in.state) (sym c.in-Some-line_in.ensures)
