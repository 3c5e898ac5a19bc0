use Rattle.alg_build.proofs.Lines.{grows-then, grows_last}
use Rattle.alg_build.proofs.Scaling.{back_there, products_rewrite, may_scale, scaled_there, scaled_left, scaled_right, scaled_left_same, scaled_right_same, scaled_concludes}
use Rattle.alg_build.proofs.builder.Builder.scaled.Goals as goal

pub concluded-back-requires : goal.concluded-back-requires
concluded-back-requires c = back_there _ _ _ _ _ _ _ _ _ c.requires.2 c.requires.3

pub rewritten-requires : goal.rewritten-requires
rewritten-requires c = (_, c.requires.1, products_rewrite _ _ _ _ _ _ _ _ _ c.requires.2 c.requires.3, c.requires.3)

pub times_inverse-requires : goal.times_inverse-requires
times_inverse-requires c =
    let q = c.in_ok-products.ensures.concludes _ c.requires.1 (products_rewrite _ _ _ _ _ _ _ _ _ c.requires.2 c.requires.3) c.requires.3 in
    (_, _, _, may_scale _ _ _ _ _ _ _ _ _ c.requires.2 c.requires.3 _ _ c.in_ok-products.ensures.grows q c.concluded-back.ensures.fine.statement)

pub subst-requires-clause-there : goal.subst-requires-clause-there
subst-requires-clause-there c =
    let q = c.in_ok-products.ensures.concludes _ c.requires.1 (products_rewrite _ _ _ _ _ _ _ _ _ c.requires.2 c.requires.3) c.requires.3 in
    let m = may_scale _ _ _ _ _ _ _ _ _ c.requires.2 c.requires.3 _ _ c.in_ok-products.ensures.grows q c.concluded-back.ensures.fine.statement in
    scaled_there _ _ _ _ _ _ _ _ _ c.requires.2 c.requires.3 _ _ c.in_ok-products.ensures.grows q c.concluded-back.ensures.fine.statement _ _ c.in_ok-times.ensures.grows (c.in_ok-times.ensures.proves _ _ _ m)

pub subst-requires-clause-second : goal.subst-requires-clause-second
subst-requires-clause-second c =
    let q = c.in_ok-products.ensures.concludes _ c.requires.1 (products_rewrite _ _ _ _ _ _ _ _ _ c.requires.2 c.requires.3) c.requires.3 in
    let m = may_scale _ _ _ _ _ _ _ _ _ c.requires.2 c.requires.3 _ _ c.in_ok-products.ensures.grows q c.concluded-back.ensures.fine.statement in
    scaled_left _ _ _ _ _ _ _ _ _ c.requires.2 c.requires.3 _ _ c.in_ok-products.ensures.grows q c.concluded-back.ensures.fine.statement _ _ c.in_ok-times.ensures.grows (c.in_ok-times.ensures.proves _ _ _ m)

pub subst-requires-clause-third : goal.subst-requires-clause-third
subst-requires-clause-third c =
    let q = c.in_ok-products.ensures.concludes _ c.requires.1 (products_rewrite _ _ _ _ _ _ _ _ _ c.requires.2 c.requires.3) c.requires.3 in
    let m = may_scale _ _ _ _ _ _ _ _ _ c.requires.2 c.requires.3 _ _ c.in_ok-products.ensures.grows q c.concluded-back.ensures.fine.statement in
    scaled_right _ _ _ _ _ _ _ _ _ c.requires.2 c.requires.3 _ _ c.in_ok-products.ensures.grows q c.concluded-back.ensures.fine.statement _ _ c.in_ok-times.ensures.grows (c.in_ok-times.ensures.proves _ _ _ m)

pub subst-requires-clause-left : goal.subst-requires-clause-left
subst-requires-clause-left c =
    let q = c.in_ok-products.ensures.concludes _ c.requires.1 (products_rewrite _ _ _ _ _ _ _ _ _ c.requires.2 c.requires.3) c.requires.3 in
    let m = may_scale _ _ _ _ _ _ _ _ _ c.requires.2 c.requires.3 _ _ c.in_ok-products.ensures.grows q c.concluded-back.ensures.fine.statement in
    scaled_left_same _ _ _ _ _ _ _ _ _ c.requires.2 c.requires.3 _ _ c.in_ok-products.ensures.grows q c.concluded-back.ensures.fine.statement _ _ c.in_ok-times.ensures.grows (c.in_ok-times.ensures.proves _ _ _ m)

pub subst-requires-clause-right : goal.subst-requires-clause-right
subst-requires-clause-right c =
    let q = c.in_ok-products.ensures.concludes _ c.requires.1 (products_rewrite _ _ _ _ _ _ _ _ _ c.requires.2 c.requires.3) c.requires.3 in
    let m = may_scale _ _ _ _ _ _ _ _ _ c.requires.2 c.requires.3 _ _ c.in_ok-products.ensures.grows q c.concluded-back.ensures.fine.statement in
    scaled_right_same _ _ _ _ _ _ _ _ _ c.requires.2 c.requires.3 _ _ c.in_ok-products.ensures.grows q c.concluded-back.ensures.fine.statement _ _ c.in_ok-times.ensures.grows (c.in_ok-times.ensures.proves _ _ _ m)

pub returns-clause-concludes : goal.returns-clause-concludes
returns-clause-concludes c =
    scaled_concludes c.args.self.now c.rewritten.new.self c.times_inverse.new.self c.subst.new.self c.args.by c.args.left c.args.right c.args.back_left c.args.back_right c.args.line c.in_ok-products.products c.in_ok-times.times _
    c.subst.result c.in_ok-products.ensures.grows c.in_ok-times.ensures.grows c.concluded-back.ensures.fine.statement c.in_ok-products.ensures.concludes c.in_ok-times.ensures.proves c.subst.ensures.adds

pub returns-clause-grows : goal.returns-clause-grows
returns-clause-grows c = grows_last _ _ _ _ _ c.subst.result (grows-then _ _ _ c.in_ok-products.ensures.grows c.in_ok-times.ensures.grows) c.subst.ensures.adds c.subst.ensures.err
