use Rattle.alg_build.proofs.Scaling.{scale_fits, scale_sorted, scale_equations, scale_head, scale_grows, scale_proves}
use Rattle.alg_build.proofs.builder.Builder.times_inverse.Goals as goal

pub app-requires-clause-sorts : goal.app-requires-clause-sorts
app-requires-clause-sorts c = scale_fits _ _ _ _ _ _ c.requires.3 c.concluded-sort.result c.concluded-sort.ensures.statement

pub refl-requires-clause-sorted : goal.refl-requires-clause-sorted
refl-requires-clause-sorted c = scale_sorted _ _ _ _ _ _ c.requires.3 _ _ c.concluded-sort.result c.concluded-sort.ensures.statement c.in_ok-inverse.ensures.ok

pub cong-requires-clause-equations : goal.cong-requires-clause-equations
cong-requires-clause-equations c = scale_equations _ _ _ _ _ _ c.requires.3 _ _ c.concluded-sort.result c.concluded-sort.ensures.statement c.in_ok-inverse.ensures.ok _ _ _ c.in_ok-same.ensures.adds

pub cong-requires-clause-fits : goal.cong-requires-clause-fits
cong-requires-clause-fits c = scale_head _ _ _ _ _ _ c.requires.3 _ _ c.concluded-sort.result c.concluded-sort.ensures.statement c.in_ok-inverse.ensures.ok _ _ _ c.in_ok-same.ensures.adds

pub returns-clause-proves : goal.returns-clause-proves
returns-clause-proves c =
    scale_proves c.args.self.now c.app.new.self c.refl.new.self c.cong.new.self c.args.line c.args.by c.in_ok-inverse.inverse c.concluded-sort.result c.in_ok-same.same _ _ c.cong.result c.concluded-sort.ensures.statement
    c.in_ok-inverse.ensures.ok c.in_ok-same.ensures.adds c.cong.ensures.adds

pub returns-clause-grows : goal.returns-clause-grows
returns-clause-grows c =
    scale_grows _ _ _ _ _ _ c.requires.3 _ _ c.concluded-sort.result c.concluded-sort.ensures.statement c.in_ok-inverse.ensures.ok _ _ _ c.in_ok-same.ensures.adds _ _ c.cong.result c.cong.ensures.adds c.cong.ensures.err
