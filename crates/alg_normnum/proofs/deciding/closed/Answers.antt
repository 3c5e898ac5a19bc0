use Rattle.std.proofs.Common.{sym, ◌∙◌}
use Rattle.std.proofs.lemmas.Bool.{and_parts}
use Rattle.alg_normnum.proofs.Numbers.{evident}
use Rattle.alg_normnum.proofs.Relations.{gives_same}
use Rattle.alg_normnum.proofs.deciding.closed.Goals as goal

pub returns-then-is_evident-clause-closes : goal.returns-then-is_evident-clause-closes
returns-then-is_evident-clause-closes c =
    let both = and_parts _ _ (sym c.is_evident.ensures ∙ c.if-is_evident.true) in
    gives_same c.end_with.new.cx c.end_with.result _ _ (sym (evident _ _ _ _ c.requires.numbers both.0 (sym c.is_same-same.ensures.same ∙ both.1))) c.end_with.ensures.answer
