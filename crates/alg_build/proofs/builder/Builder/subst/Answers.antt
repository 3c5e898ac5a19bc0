use Rattle.std.proofs.Common.{refl}
use Rattle.alg_build.proofs.Concluding.{subst_line}
use Rattle.alg_build.proofs.builder.Builder.subst.Goals as goal

pub add-requires-clause-good : goal.add-requires-clause-good
add-requires-clause-good c =
    subst_line c.args.self.now c.args.i c.args.j c.args.k c.concluded-a.result c.concluded-b.result c.concluded-c.result _ c.requires.there c.requires.second c.requires.third c.requires.left c.requires.right c.concluded-a.ensures.fine.statement
    c.concluded-a.ensures.statement c.concluded-b.ensures.statement c.concluded-c.ensures.statement refl
