use Rattle.alg_build.proofs.Concluding.{operation_line}
use Rattle.alg_build.proofs.builder.Builder.operation.Goals as goal

pub returns-clause-ok : goal.returns-clause-ok
returns-clause-ok c =
    operation_line c.args.self.now c.lit.new.self c.lit-2.new.self c.app.new.self c.args.sym c.args.sort c.in_ok-a.a c.in_ok-b.b c.args.m c.args.n c.app.result c.in_ok-a.ensures.ok c.in_ok-b.ensures.ok
    c.app.ensures.ok
