use Rattle.std.proofs.Common.{◌≡◌, length, rules}
use Rattle.alg_scripts.proofs.Concluding.{no_calls_in, without_is, posed_arguments, posed_fit, fate_over}
use Rattle.alg_scripts.proofs.proving.prove_goal.Goals as goal

pub returns-then-is_empty : goal.returns-then-is_empty
returns-then-is_empty g c =
    let none : length c.args.script.now ≡ 0 = search rules in
    without_is _ _ _ _ _ _ (no_calls_in _ c.args.script.now none) c.without_procedure.ensures

pub run_over-requires-clause-arguments : goal.run_over-requires-clause-arguments
run_over-requires-clause-arguments g c = posed_arguments _ _ _ c.in_ok-cx.ensures c.requires.declarable.writable

pub run_over-requires-clause-fit : goal.run_over-requires-clause-fit
run_over-requires-clause-fit g c = posed_fit _ _ _ c.in_ok-cx.ensures _ c.requires.fit

pub returns : goal.returns
returns g c = fate_over _ _ _ _ _ _ _ _ c.in_ok-cx.ensures.declarations c.in_ok-cx.ensures.statement c.run_over.ensures
