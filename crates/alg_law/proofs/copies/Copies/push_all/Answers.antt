use Rattle.std.proofs.Common.{◌++◌, ◌∙◌, ap, rules}
use Rattle.alg_law.specs.Declarations.{declarations_of}
use Rattle.alg_law.specs.Growing.{HasGrown}
use Rattle.alg_law.proofs.CopyLemmas.{declarations_of-take}
use Rattle.alg_law.proofs.copies.Copies.push_all.Goals as goal

pub returns-in_err-push-clause-err : goal.returns-in_err-push-clause-err
returns-in_err-push-clause-err c =
    let h : HasGrown c.args.self.now (declarations_of c.args.from.now c.args.ds.now) c.push.new.self =
    record {
      count = c.loop-d.d-index;
      grown = c.in_err-push.ensures.err ∙ (c.loop-d.invariant ∙ ap (λ xs. c.args.self.now ++ xs) (declarations_of-take c.args.from.now c.loop-d.d-index c.args.ds.now));
    } in
    search rules
