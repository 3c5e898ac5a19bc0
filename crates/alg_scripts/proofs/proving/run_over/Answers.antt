use Rattle.std.proofs.Common.{◌∙◌}
use Rattle.alg_lemma.proofs.Named.{holds}
use Rattle.alg_scripts.proofs.Concluding.{stays_in, stays_proves, stays_arguments, fate_is}
use Rattle.alg_scripts.proofs.proving.run_over.Goals as goal

pub run_script-requires-clause-lemmas : goal.run_script-requires-clause-lemmas
run_script-requires-clause-lemmas g c = holds _ c.requires.lemmas

pub finish-requires-clause-here : goal.finish-requires-clause-here
finish-requires-clause-here g c = stays_in _ _ c.in_ok-notes.ensures.stays c.args.goal c.requires.here

pub finish-requires-clause-lemmas : goal.finish-requires-clause-lemmas
finish-requires-clause-lemmas g c = c.in_ok-notes.ensures.stays.lemmas ∙ c.requires.lemmas

pub finish-requires-clause-proves : goal.finish-requires-clause-proves
finish-requires-clause-proves g c = stays_proves _ _ c.in_ok-notes.ensures.stays c.args.goal c.requires.here _ c.in_ok-notes.ensures.proves

pub finish-requires-clause-arguments : goal.finish-requires-clause-arguments
finish-requires-clause-arguments g c = stays_arguments _ _ c.in_ok-notes.ensures.stays c.args.goal c.requires.here c.requires.arguments

pub returns : goal.returns
returns g c = fate_is _ _ c.in_ok-notes.ensures.stays c.args.goal c.requires.here _ _ _ _ c.in_ok-notes.ensures.tells c.in_ok-end.ensures
