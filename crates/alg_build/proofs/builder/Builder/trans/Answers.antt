use Rattle.alg_build.proofs.Concluding.{trans_line}
use Rattle.alg_build.proofs.builder.Builder.trans.Goals as goal

pub add-requires-clause-good : goal.add-requires-clause-good
add-requires-clause-good c =
    trans_line c.args.self.now c.args.i c.args.j c.concluded-a.result c.concluded-b.result _ c.requires.first c.requires.second c.requires.middle c.concluded-a.ensures.fine.statement c.concluded-a.ensures.statement
    c.concluded-b.ensures.statement c.equation-s.ensures.statement
