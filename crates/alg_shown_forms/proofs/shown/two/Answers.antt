use Rattle.alg_shown_forms.proofs.Opening.{first_part, second_part}
use Rattle.alg_shown_forms.proofs.shown.two.Goals as goal

pub returns-in-Some-clause-first : goal.returns-in-Some-clause-first
returns-in-Some-clause-first c = λ s f x y h. let w = c.in-Some.ensures in
    first_part _ s _ _ f x y h w.0 (w.2 f s x y h.stands.tree).0

pub returns-in-Some-clause-second : goal.returns-in-Some-clause-second
returns-in-Some-clause-second c = λ s f x y h. let w = c.in-Some.ensures in
    second_part _ s _ _ f x y h w.1 (w.2 f s x y h.stands.tree).1
