use Rattle.alg_parse.proofs.ProgressLaws.{fault_added}
use Rattle.alg_parse.proofs.reader.Reader.add_fault.Goals as goal

pub returns : goal.returns
returns c = λ k told h.
    let r = c.args.self.now in
    fault_added k told r.arena r.scope r.shared r.used r.commands.items c.push.new.self.items c.args.line c.args.cause h c.in_ok-push.ensures.items
