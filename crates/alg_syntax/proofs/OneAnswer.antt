-- All signs have one answer at most.
use Rattle.std.proofs.Common.{◌≡◌, List, true, false, refl, sym, ap, ◌∙◌}
use Rattle.std.specs.Prelude.{Result, Ok, Err}
use Rattle.alg_syntax.specs.declared.signs.Sign.{Sign}
use Rattle.alg_syntax.specs.declared.commands.Command.{Command}
use Rattle.alg_syntax.specs.declared.commands.Unread.{Unread}
use Rattle.alg_syntax.specs.declared.commands.Unread.TheVariants.{TooDeep, Syntax}
use Rattle.alg_syntax.specs.Answers.{Answers}
use Rattle.alg_syntax.proofs.CommandReadings.{one_reading}

pub one_answer : (ts : List Sign) (r s : Result Command Unread) → Answers ts r → Answers ts s → r ≡ s
one_answer ts (Ok c) (Ok d) a b = ap (λ (x : Command). Ok x) (one_reading ts c d a.1 b.1)
one_answer ts (Ok c) (Err TooDeep) a b = let e : true ≡ false = sym b ∙ a.0 in cc
one_answer ts (Ok c) (Err Syntax) a b = absurd (b.1 c a.1)
one_answer ts (Err TooDeep) (Ok d) a b = let e : true ≡ false = sym a ∙ b.0 in cc
one_answer ts (Err TooDeep) (Err TooDeep) a b = refl
one_answer ts (Err TooDeep) (Err Syntax) a b = let e : true ≡ false = sym a ∙ b.0 in cc
one_answer ts (Err Syntax) (Ok d) a b = absurd (a.1 d b.1)
one_answer ts (Err Syntax) (Err TooDeep) a b = let e : true ≡ false = sym b ∙ a.0 in cc
one_answer ts (Err Syntax) (Err Syntax) a b = refl
