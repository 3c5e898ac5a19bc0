use Rattle.std.proofs.Common.{◌≡◌, ◌+◌, ◌<◌, ◌^◌, length, ap, rules, arith}
use Rattle.alg_parse.proofs.ProgressLaws.{goal_added}
use Rattle.alg_parse.proofs.reader.Reader.add_goal.Goals as goal

pub returns : goal.returns
returns c = λ k told h.
    let r = c.args.self.now in
    let d = c.args.stated in
    let n = c.len-prefix.result in
    let room : n + length c.as_slice.result.now < 2 ^ 32 = c.has_room.ensures.0 (search (rules, c.if-not-has_room.false)) in
    let counted : length c.as_slice.result.now ≡ length d.local = ap length c.as_slice.ensures in
    goal_added k told c.args.label c.args.line c.args.goal.now d c.in_ok-script.script r.arena c.build_procedures.new.arena r.scope c.build_procedures.new.scope r.shared r.used r.commands.items c.push.new.self.items n
    h c.in_ok-script.ensures.kept c.in_ok-script.ensures.back c.len-prefix.ensures.len
    (record {
      stated = c.requires.good;
      local = c.requires.here.0;
      here = c.requires.here.1;
      room = omega (arith, room, counted, c.len-prefix.ensures.len);
      calls = c.in_ok-script.ensures.told;
    })
    c.in_ok-push.ensures.items
