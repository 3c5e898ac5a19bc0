use Rattle.alg_build.proofs.Lines.{grows_last}
use Rattle.alg_build.proofs.Leading.{rewrite_first, rewrite_second, rewrite_goal, rewrite_left, rewrite_right, rewrite_left_same, rewrite_right_same, rewrite_grows, rewrite_concludes}
use Rattle.alg_build.proofs.builder.Builder.rewritten.Goals as goal

pub symm-requires : goal.symm-requires
symm-requires c = rewrite_first _ _ _ _ _ _ c.requires.2 c.requires.3

pub symm-requires-2 : goal.symm-requires-2
symm-requires-2 c = rewrite_second _ _ _ _ _ _ c.requires.2 c.requires.3 _ _ _ c.in_ok-to_left.ensures.adds

pub subst-requires-clause-there : goal.subst-requires-clause-there
subst-requires-clause-there c = rewrite_goal _ _ _ _ _ _ c.requires.2 c.requires.3 _ _ _ c.in_ok-to_left.ensures.adds _ _ _ c.in_ok-to_right.ensures.adds

pub subst-requires-clause-second : goal.subst-requires-clause-second
subst-requires-clause-second c = rewrite_left _ _ _ _ _ _ c.requires.2 c.requires.3 _ _ _ c.in_ok-to_left.ensures.adds _ _ _ c.in_ok-to_right.ensures.adds

pub subst-requires-clause-third : goal.subst-requires-clause-third
subst-requires-clause-third c = rewrite_right _ _ _ _ _ _ c.requires.2 c.requires.3 _ _ _ c.in_ok-to_left.ensures.adds _ _ _ c.in_ok-to_right.ensures.adds

pub subst-requires-clause-left : goal.subst-requires-clause-left
subst-requires-clause-left c = rewrite_left_same _ _ _ _ _ _ c.requires.2 c.requires.3 _ _ _ c.in_ok-to_left.ensures.adds _ _ _ c.in_ok-to_right.ensures.adds

pub subst-requires-clause-right : goal.subst-requires-clause-right
subst-requires-clause-right c = rewrite_right_same _ _ _ _ _ _ c.requires.2 c.requires.3 _ _ _ c.in_ok-to_left.ensures.adds _ _ _ c.in_ok-to_right.ensures.adds

pub returns-clause-concludes : goal.returns-clause-concludes
returns-clause-concludes c = rewrite_concludes c.args.self.now c.symm.new.self c.symm-2.new.self c.subst.new.self c.args.left c.args.right c.args.line c.in_ok-to_left.to_left c.in_ok-to_right.to_right _ _ _ c.subst.result c.in_ok-to_left.ensures.adds c.in_ok-to_right.ensures.adds c.subst.ensures.adds

pub returns-clause-grows : goal.returns-clause-grows
returns-clause-grows c =
    grows_last _ _ _ _ _ c.subst.result (rewrite_grows _ _ _ _ _ _ c.requires.2 c.requires.3 _ _ _ c.in_ok-to_left.ensures.adds _ _ _ c.in_ok-to_right.ensures.adds) c.subst.ensures.adds c.subst.ensures.err
