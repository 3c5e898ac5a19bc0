use Rattle.std.proofs.Common.{◌≡◌, [], ◌++◌, Some, Ok, sym, ap, ◌∙◌, subst}
use Rattle.std.specs.Result.{IfOk, IfErr}
use Rattle.alg_law.specs.Declarations.{declarations_of}
use Rattle.alg_law.specs.Following.{AllMayFollow}
use Rattle.alg_elaborate.specs.Faults.{first}
use Rattle.alg_names.specs.Entering.{entered}
use Rattle.alg_binders.specs.CommandFaults.{command_faults, declared_after}
use Rattle.alg_parse.specs.Elaborated.{IsElaborated}
use Rattle.alg_parse.proofs.ProgressLaws.{on_ok, on_both, shared_fits, shared_added, good_taken, fault_taken, fault_known, states_back, same_at, grown}
use Rattle.alg_parse.proofs.reader.Reader.take_command.Goals as goal

pub add_shared-requires-clause-fit : goal.add_shared-requires-clause-fit
add_shared-requires-clause-fit c =
    let r = c.args.self.now in
    let x = c.args.command.now in
    let ts = c.elaborate_command.new.arena in
    let d = c.in-Ok-Declares.declared in
    let e = c.in-Ok-Declares.is ∙ ap Ok c.in-Ok-Declares.field-0-is in
    subst (λ ds. AllMayFollow r.shared (declarations_of ts ds)) (sym c.as_slice.ensures)
    (shared_fits c.requires.known c.requires.told x d r.arena ts r.scope r.shared r.used r.commands.items c.requires.stands
    (subst (λ o. IfOk o (IsElaborated r.scope ts x)) e c.in_ok-declared.ensures.told)
    (subst (λ o. IfOk o (λ y. command_faults r.scope r.used x ≡ [])) e c.in_ok-declared.ensures.faultless))

pub returns-in-Ok-Declares : goal.returns-in-Ok-Declares
returns-in-Ok-Declares c =
    let r = c.args.self.now in
    let s = c.add_shared.new.self in
    let x = c.args.command.now in
    let ts = c.elaborate_command.new.arena in
    let u = c.elaborate_command.new.scope in
    let d = c.in-Ok-Declares.declared in
    let e = c.in-Ok-Declares.is ∙ ap Ok c.in-Ok-Declares.field-0-is in
    let told = subst (λ o. IfOk o (IsElaborated r.scope ts x)) e c.in_ok-declared.ensures.told in
    let faultless = subst (λ o. IfOk o (λ y. command_faults r.scope r.used x ≡ [])) e c.in_ok-declared.ensures.faultless in
    let entered = subst (λ o. IfOk o (λ y. u ≡ entered r.scope (declared_after r.scope x))) e c.in_ok-declared.ensures.entered in
    on_both c.add_shared.result _ _ _
    (λ a b k before h. same_at _ _ ts s.arena u s.scope s.shared r.used s.used s.commands.items c.add_shared.ensures.arena c.add_shared.ensures.scope c.add_shared.ensures.used
    (shared_added k before c.args.line x d r.arena ts r.scope u r.shared s.shared r.used r.commands.items s.commands.items h c.in_ok-declared.ensures.kept told faultless entered
    (a ∙ ap (λ ds. r.shared ++ declarations_of ts ds) c.as_slice.ensures) b))
    c.add_shared.ensures.shared c.add_shared.ensures.commands

pub returns-in-Ok-States : goal.returns-in-Ok-States
returns-in-Ok-States c =
    let r = c.args.self.now in
    let s = c.add_stated.new.self in
    let x = c.args.command.now in
    let ts = c.elaborate_command.new.arena in
    let u = c.elaborate_command.new.scope in
    let d = c.in-Ok-States.stated in
    let e = c.in-Ok-States.is ∙ ap Ok c.in-Ok-States.field-0-is in
    let told = subst (λ o. IfOk o (IsElaborated r.scope ts x)) e c.in_ok-declared.ensures.told in
    let faultless = subst (λ o. IfOk o (λ y. command_faults r.scope r.used x ≡ [])) e c.in_ok-declared.ensures.faultless in
    let entered = subst (λ o. IfOk o (λ y. u ≡ entered r.scope (declared_after r.scope x))) e c.in_ok-declared.ensures.entered in
    on_ok c.add_stated.result _ _
    (λ f k before h. good_taken k before c.args.line x s.arena s.scope s.shared s.used s.commands.items (fault_known k before x r.arena r.scope r.shared r.used r.commands.items h ∙ ap first faultless)
    (f k before (grown k before r.arena ts r.scope u r.shared r.used r.commands.items h c.in_ok-declared.ensures.kept (states_back r.scope u ts x d told entered))))
    c.add_stated.ensures

pub returns-in-Err : goal.returns-in-Err
returns-in-Err c =
    let r = c.args.self.now in
    let s = c.add_fault.new.self in
    let x = c.args.command.now in
    let ts = c.elaborate_command.new.arena in
    let u = c.elaborate_command.new.scope in
    let faulty = subst (λ o. IfErr o (λ y. first (command_faults r.scope r.used x) ≡ Some y)) c.in-Err.is c.in_ok-declared.ensures.faulty in
    let back = subst (λ o. IfErr o (λ y. u ≡ r.scope)) c.in-Err.is c.in_ok-declared.ensures.back in
    on_ok c.add_fault.result _ _
    (λ f k before h. fault_taken k before c.args.line x c.in-Err.cause s.arena s.scope s.shared s.used s.commands.items (fault_known k before x r.arena r.scope r.shared r.used r.commands.items h ∙ faulty)
    (f k before (grown k before r.arena ts r.scope u r.shared r.used r.commands.items h c.in_ok-declared.ensures.kept back)))
    c.add_fault.ensures
