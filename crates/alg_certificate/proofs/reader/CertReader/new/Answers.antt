use Rattle.std.proofs.Common.{arith, ◌∙◌, ap, sym}
use Rattle.alg_certificate.specs.Reader.{after_header}
use Rattle.alg_certificate.specs.Grammar.{header}
use Rattle.alg_certificate.proofs.Steps.{broken, after_size}
use Rattle.alg_certificate.proofs.Complete.{made_of, made_without}
use Rattle.alg_certificate.proofs.reader.CertReader.new.Goals as goal

pub returns-in-None-clause-coming : goal.returns-in-None-clause-coming
returns-in-None-clause-coming c = broken c.args.bytes.now _ (omega arith) ∙ ap after_header c.in-None.ensures

pub returns-in-None-clause-grammar : goal.returns-in-None-clause-grammar
returns-in-None-clause-grammar c = made_without c.args.bytes.now _ c.in-None.ensures (omega arith)

pub returns-in-Some-clause-grammar : goal.returns-in-Some-clause-grammar
returns-in-Some-clause-grammar c = made_of c.args.bytes.now _ _ c.in-Some.ensures (omega (arith, after_size header c.args.bytes.now _ (sym c.in-Some.ensures)))
