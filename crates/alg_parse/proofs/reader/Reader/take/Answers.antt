use Rattle.alg_parse.proofs.ProgressLaws.{on_ok, unread_taken}
use Rattle.alg_parse.proofs.reader.Reader.take.Goals as goal

pub returns-in-Err : goal.returns-in-Err
returns-in-Err c =
    let s = c.add_fault.new.self in
    on_ok c.add_fault.result _ _
    (λ f k told h. unread_taken k told c.args.reading.now.line c.args.reading.now.command c.in-Err.why c.cause_of.result s.arena s.scope s.shared s.used s.commands.items c.in-Err.is c.cause_of.ensures (f k told h))
    c.add_fault.ensures
