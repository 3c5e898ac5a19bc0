use Rattle.alg_kernel.proofs.Growing.{IsSound-extends}
use Rattle.alg_proof.specs.Lines.{step_of}
use Rattle.std.proofs.Common.{◌≡◌, sym, Ok, subst}
use Rattle.alg_check.specs.Meant.{meant}
use Rattle.alg_check.proofs.Steps.{fed_number, fed_follows, fed_before}
use Rattle.alg_check.proofs.following.follow.Goals as goal

pub feed-requires-clause-sound : goal.feed-requires-clause-sound
feed-requires-clause-sound c = IsSound-extends _ _ c.in-Ok.ensures.keeps _ c.requires.sound

pub returns-in-Ok-clause-number : goal.returns-in-Ok-clause-number
returns-in-Ok-clause-number c =
    fed_number _ c.args.number _ _ _ c.feed.result c.requires.number
    (fed_before _ _ c.in-Ok.ensures.keeps c.args.kernel.now c.requires.sound _ _ _ c.feed.ensures.answers)

pub returns-in-Ok-clause-follows : goal.returns-in-Ok-clause-follows
returns-in-Ok-clause-follows c = λ l h e.
    let same : c.args.base.now ≡ c.args.kernel.now.grounds.base.now = sym c.requires.base in
    fed_follows _ _ _ l (step_of c.build_line.new.arena c.in-Ok.line) c.feed.result
    (subst (λ ds. meant ds l ≡ Ok (step_of c.build_line.new.arena c.in-Ok.line)) same (c.in-Ok.ensures.builds l h e))
    (fed_before _ _ c.in-Ok.ensures.keeps c.args.kernel.now c.requires.sound _ _ _ c.feed.ensures.answers)

pub returns-in-Err-clause-sound : goal.returns-in-Err-clause-sound
returns-in-Err-clause-sound c = IsSound-extends _ _ c.in-Err.ensures.keeps _ c.requires.sound
