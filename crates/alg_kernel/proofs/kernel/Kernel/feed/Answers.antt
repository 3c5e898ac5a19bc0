use Rattle.std.proofs.Common.{rules}
use Rattle.alg_proof.specs.Lines.{step_of}
use Rattle.alg_kernel.specs.State.{theory_of}
use Rattle.alg_kernel.proofs.KernelLemmas.{feed-good, feed-memory}
use Rattle.alg_kernel.proofs.kernel.Kernel.feed.Goals as goal

pub returns-in-Ok-clause-answers : goal.returns-in-Ok-clause-answers
returns-in-Ok-clause-answers c = feed-good c.args.arena.now c.add.new.arena c.args.self.now c.add.new.self (step_of c.args.arena.now c.args.line.now) c.add.ensures.keeps c.requires.sound (theory_of c.args.arena.now c.args.self.now.grounds) (search rules) c.add.ensures.bad c.add.result (search rules) c.add.ensures.fed

pub returns-in-Err-Memory-clause-answers : goal.returns-in-Err-Memory-clause-answers
returns-in-Err-Memory-clause-answers c = feed-memory c.args.arena.now c.add.new.arena c.args.self.now c.add.new.self (step_of c.args.arena.now c.args.line.now) c.add.ensures.keeps c.requires.sound (theory_of c.args.arena.now c.args.self.now.grounds) (search rules) c.add.ensures.bad c.add.result (search rules) c.add.ensures.fed
