use Rattle.std.proofs.Common.{◌++◌, sym, subst}
use Rattle.alg_parse.specs.Told.{further_calls, calls_of}
use Rattle.alg_parse.specs.FileTrees.{AreCalls}
use Rattle.alg_parse.proofs.CallLaws.{script_called}
use Rattle.alg_parse.proofs.scripts.build_script.Goals as goal

pub returns-clause-told : goal.returns-clause-told
returns-clause-told c =
    let s = c.args.scope.now in
    let k = c.args.sort in
    let x = c.args.script.now in
    let ts = c.add_further.new.arena in
    let ps = c.add_further.new.procs.items in
    subst (λ qs. AreCalls ts qs (calls_of s k x)) (sym c.of.ensures)
    (script_called s k x c.args.arena.now c.add_step.new.arena ts c.new-procs.result.items c.add_step.new.procs.items ps c.new-procs.ensures.items c.in_ok-add_step.ensures.told
    (λ cs h. subst (λ xs. AreCalls ts ps (cs ++ further_calls s k xs)) c.as_slice.ensures (c.in_ok-add_further.ensures.told cs h)))
