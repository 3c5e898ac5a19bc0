use Rattle.std.proofs.Common.{arith, ap, ◌∙◌}
use Rattle.std.proofs.lemmas.List.{length-map}
use Rattle.alg_syntax.specs.Signs.{seen, signs}
use Rattle.alg_commands.proofs.Kept.{no_more, one_more, signs-push}
use Rattle.alg_commands.proofs.pieces.keep.Goals as goal

pub returns-then-len-gt4096 : goal.returns-then-len-gt4096
returns-then-len-gt4096 c = λ all e. no_more 4097 (signs c.args.tokens.now.items) all (seen c.args.token) e (omega (arith, length-map c.args.tokens.now.items seen, c.args.tokens.now.ok.0, c.len.ensures))

pub returns : goal.returns
returns c = λ all e. ap signs c.in_ok-push.ensures.items ∙ (signs-push c.args.tokens.now.items c.args.token
    ∙ one_more 4097 (signs c.args.tokens.now.items) all (seen c.args.token) e (omega (arith, length-map c.args.tokens.now.items seen, c.args.tokens.now.ok.0, c.len.ensures)))
