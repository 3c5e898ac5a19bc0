use Rattle.std.proofs.Common.{[], ◌∷◌, ◌++◌, ap, ◌∙◌}
use Rattle.alg_parse.proofs.ProgressLaws.{on_ok, uses, theorem_taken}
use Rattle.alg_parse.proofs.reader.Reader.add_theorem.Goals as goal

pub returns : goal.returns
returns c =
    let r = c.args.self.now in
    let s = c.add_goal.new.self in
    let n = c.args.name.now in
    on_ok c.add_goal.result _ _
    (λ f k told h. theorem_taken k told c.of-label.result c.args.line n c.args.goal.now s.arena s.scope s.shared s.used s.commands.items (c.of-label.ensures ∙ (c.in_ok-from_str-2.ensures.ok ∙ c.text-2.ensures))
    (f (record { shared = k.shared; used = k.used ++ n.text ∷ [] }) told
    (uses k told r.arena r.scope r.shared r.used c.add.new.self r.commands.items n.text h (c.in_ok-add.ensures.added ∙ ap (λ t. r.used ++ t ∷ []) (c.in_ok-from_str.ensures.ok ∙ c.text.ensures)))))
    c.add_goal.ensures
