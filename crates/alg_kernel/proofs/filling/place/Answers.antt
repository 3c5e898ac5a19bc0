use Rattle.alg_kernel.proofs.FillingLemmas.{AllStand-push, lit-push}
use Rattle.alg_kernel.proofs.filling.place.Goals as goal

pub returns-in_ok-push-in-Letter-clause-put : goal.returns-in_ok-push-in-Letter-clause-put
returns-in_ok-push-in-Letter-clause-put c = λ ds ts h. rw c.in-Letter.is (AllStand-push ds c.args.arena.now c.letter.new.arena c.args.stack.now.items c.push.new.self.items _ _ ts c.letter.ensures.keeps c.in_ok-push-in-Letter.ensures.ok (c.in_ok-e-in-Letter.ensures.here, c.in_ok-e-in-Letter.ensures.tree) h)

pub returns-in_ok-push-in-Lit-clause-put : goal.returns-in_ok-push-in-Lit-clause-put
returns-in_ok-push-in-Lit-clause-put c = λ ds ts h. rw (c.in-Lit.is, ← c.sort_at.ensures) (lit-push ds c.args.arena.now c.lit.new.self c.args.stack.now.items c.push-in-Lit.new.self.items c.in_ok-e-in-Lit.e _ ts c.in_ok-e-in-Lit.ensures.ok c.in_ok-push-in-Lit.ensures.ok h)
