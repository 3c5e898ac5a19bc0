use Rattle.std.proofs.Common.{rules}
use Rattle.alg_law.proofs.CopyLemmas.{here-extends, view-extends, view-push, here-push}
use Rattle.alg_law.proofs.copies.Copies.push.Goals as goal

pub invariant_of-self : goal.invariant_of-self
invariant_of-self c = here-extends c.self.inside.arena c.own_copy.new.arena c.self.inside.declared.items c.own_copy.ensures.keeps c.self.invariant

pub returns-in_err-own-clause-err : goal.returns-in_err-own-clause-err
returns-in_err-own-clause-err c =
    let e = view-extends c.self.inside.arena c.own_copy.new.arena c.self.inside.declared.items c.args.self.now c.own_copy.ensures.keeps c.self.invariant c.self.view_is in
    search rules

pub invariant_of-self-in_err-push : goal.invariant_of-self-in_err-push
invariant_of-self-in_err-push c =
    rw (c.in_err-push.ensures.items) (here-extends c.self.inside.arena c.own_copy.new.arena c.self.inside.declared.items c.own_copy.ensures.keeps c.self.invariant)

pub returns-in_err-push-clause-err : goal.returns-in_err-push-clause-err
returns-in_err-push-clause-err c =
    let e = view-extends c.self.inside.arena c.own_copy.new.arena c.self.inside.declared.items c.args.self.now c.own_copy.ensures.keeps c.self.invariant c.self.view_is in
    search rules

pub invariant_of-self-2 : goal.invariant_of-self-2
invariant_of-self-2 c =
    rw (c.in_ok-push.ensures.items)
    (here-push c.self.inside.arena c.own_copy.new.arena c.self.inside.declared.items c.in_ok-own.own c.own_copy.ensures.keeps c.self.invariant c.in_ok-own.ensures.here)

pub returns-clause-ok : goal.returns-clause-ok
returns-clause-ok c =
    rw (c.in_ok-push.ensures.items)
    (view-push c.self.inside.arena c.own_copy.new.arena c.self.inside.declared.items c.in_ok-own.own _ c.args.self.now c.own_copy.ensures.keeps c.self.invariant c.self.view_is c.in_ok-own.ensures.same)
