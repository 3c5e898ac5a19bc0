use Rattle.std.proofs.Common.{ap, ◌∙◌, List, [], ◌∷◌, reverse}
use Rattle.std.proofs.lemmas.Result.{IfOk-weaker}
use Rattle.alg_syntax.specs.Expressions.{Tree}
use Rattle.alg_syntax.specs.Nodes.{tree_of}
use Rattle.alg_syntax.specs.Frames.{frames_of}
use Rattle.alg_syntax.proofs.Turns.{pushed_at, frames_grown, made_in}
use Rattle.alg_syntax.proofs.expressions.add.Goals as goal

pub returns-clause-tree : goal.returns-clause-tree
returns-clause-tree c = IfOk-weaker c.push.result _ _ (λ id h. (pushed_at _ _ (tree_of c.args.nodes.now c.args.node) id h.0 h.1).0) c.push.ensures.pushed

pub returns-clause-frames : goal.returns-clause-frames
returns-clause-frames c = IfOk-weaker c.push.result _ _ (λ id h. ap (λ (xs : List Tree). frames_of xs (reverse c.args.waiting.now)) h.1 ∙ (frames_grown c.args.nodes.now (tree_of c.args.nodes.now c.args.node ∷ []) (reverse c.args.waiting.now) c.requires.frames).0) c.push.ensures.pushed

pub returns-clause-within : goal.returns-clause-within
returns-clause-within c = IfOk-weaker c.push.result _ _ (λ id h. made_in c.args.nodes.now _ (tree_of c.args.nodes.now c.args.node) id (reverse c.args.waiting.now) c.requires.frames h) c.push.ensures.pushed
