use Rattle.alg_build.proofs.CongruenceLemmas.{cong_leads, cong_adds}
use Rattle.alg_build.proofs.Lines.{keeps-grows, grows_last}
use Rattle.alg_build.proofs.builder.Builder.cong.Goals as goal

pub add-requires-clause-good : goal.add-requires-clause-good
add-requires-clause-good c =
    cong_leads c.args.self.now c.over_sides.new.self c.args.sym c.args.parts.now c.in_ok-numbers.numbers _ c.in_ok-numbers.ensures c.in_ok-s.ensures.keeps c.in_ok-s.ensures.statement c.requires.equations c.requires.fits

pub returns-clause-adds : goal.returns-clause-adds
returns-clause-adds c =
    cong_adds c.args.self.now c.over_sides.new.self c.args.sym c.args.parts.now c.in_ok-numbers.numbers _ c.in_ok-numbers.ensures c.in_ok-s.ensures.keeps c.in_ok-s.ensures.statement c.add.new.self c.add.result c.add.ensures.ok

pub returns-clause-grows : goal.returns-clause-grows
returns-clause-grows c = grows_last _ _ _ _ _ c.add.result (keeps-grows _ _ c.in_ok-s.ensures.keeps) c.add.ensures.ok c.add.ensures.err
