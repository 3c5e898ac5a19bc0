use Rattle.std.proofs.Common.{ap, ◌∙◌, drop}
use Rattle.alg_syntax.proofs.FrontLemmas.{passed}
use Rattle.alg_syntax.proofs.front.Tokens.skip.Goals as goal

pub returns-then-self : goal.returns-then-self
returns-then-self c = passed c.self.inside.tokens.now c.self.inside.at ∙ ap (drop 1) c.self.view_is
