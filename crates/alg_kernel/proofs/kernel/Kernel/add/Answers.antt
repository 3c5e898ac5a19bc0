use Rattle.std.proofs.Common.{rules, refl}
use Rattle.alg_proof.specs.Lines.{step_of}
use Rattle.alg_kernel.proofs.KernelLemmas.{sound-after, sound-push, line-fine}
use Rattle.alg_kernel.proofs.kernel.Kernel.add.Goals as goal

pub returns-in_err-s-clause-sound : goal.returns-in_err-s-clause-sound
returns-in_err-s-clause-sound c = sound-after c.args.arena.now c.judge.new.arena c.args.self.now _ c.judge.ensures.keeps refl c.first_look.ensures.marked refl c.requires.sound

pub returns-in_err-push-clause-sound : goal.returns-in_err-push-clause-sound
returns-in_err-push-clause-sound c = sound-after c.args.arena.now c.judge.new.arena c.args.self.now _ c.judge.ensures.keeps refl c.first_look.ensures.marked (search rules) c.requires.sound

pub returns-clause-sound : goal.returns-clause-sound
returns-clause-sound c =
    sound-push c.args.arena.now c.judge.new.arena c.args.self.now _ c.in_ok-s.s c.judge.ensures.keeps refl c.first_look.ensures.marked c.in_ok-push.ensures.items c.requires.sound c.in_ok-s.ensures.judged.0
    (line-fine c.args.arena.now c.judge.new.arena c.args.self.now c.in_ok-s.s (step_of c.args.arena.now c.args.line.now) c.in_ok-mark.mark c.pass.result c.in_ok-pass.field-0 c.requires.sound c.in_ok-mark.ensures.ok c.pass.ensures c.in_ok-pass.was (rw (← c.deref.ensures.value) c.in_ok-s.ensures.judged.1))
