use Rattle.std.proofs.Common.{arith, ap, sym, ◌∙◌, refl, []}
use Rattle.std.proofs.lemmas.List.{take_all}
use Rattle.alg_lex.specs.Answer.{item_of}
use Rattle.alg_syntax.specs.Signs.{signs}
use Rattle.alg_commands.proofs.Kept.{token_first}
use Rattle.alg_commands.proofs.pieces.begin.Goals as goal

pub returns-in_ok-keep-in-Ok : goal.returns-in_ok-keep-in-Ok
returns-in_ok-keep-in-Ok c = token_first _ c.in-Ok.token _ (ap item_of c.in-Ok.is) c.line_of-line.ensures refl
    (c.in_ok-keep-in-Ok.ensures [] (ap signs c.new-tokens.ensures.items ∙ sym (take_all 4097 [] (omega arith))))
