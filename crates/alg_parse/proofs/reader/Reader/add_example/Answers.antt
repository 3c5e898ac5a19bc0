use Rattle.alg_parse.proofs.ProgressLaws.{on_ok, example_taken}
use Rattle.alg_parse.proofs.reader.Reader.add_example.Goals as goal

pub returns : goal.returns
returns c =
    let s = c.add_goal.new.self in
    on_ok c.add_goal.result _ _
    (λ f k told h. example_taken k told c.in_ok-label.label c.args.line c.args.goal.now s.arena s.scope s.shared s.used s.commands.items c.in_ok-label.ensures (f k told h))
    c.add_goal.ensures
