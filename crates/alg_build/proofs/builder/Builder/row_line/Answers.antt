use Rattle.alg_build.proofs.Concluding.{line_good, line_adds}
use Rattle.alg_build.proofs.LineRules.{adds-one}
use Rattle.alg_build.proofs.Lines.{keeps-grows, grows_last}
use Rattle.alg_build.proofs.builder.Builder.row_line.Goals as goal

pub add-requires-clause-good : goal.add-requires-clause-good
add-requires-clause-good c = line_good c.args.self.now c.row_judged.new.self c.args.l c.in_ok-s.s c.in_ok-s.ensures.keeps c.requires.line_in c.in_ok-s.ensures.concludes

pub returns-clause-adds : goal.returns-clause-adds
returns-clause-adds c =
    adds-one _ _ _ _ c.add.result (line_adds c.args.self.now c.row_judged.new.self c.add.new.self c.args.l c.in_ok-s.s c.add.result c.in_ok-s.ensures.keeps c.requires.line_in c.in_ok-s.ensures.concludes c.add.ensures.ok) c.requires.leads

pub returns-clause-grows : goal.returns-clause-grows
returns-clause-grows c = grows_last _ _ _ _ _ c.add.result (keeps-grows _ _ c.in_ok-s.ensures.keeps) c.add.ensures.ok c.add.ensures.err
