use Rattle.std.proofs.Common.{rules}
use Rattle.alg_expr.specs.Ids.{statements_of}
use Rattle.alg_proof.specs.Lines.{step_of}
use Rattle.alg_kernel.proofs.KernelLemmas.{named-statement}
use Rattle.alg_kernel.proofs.judging.judge.Goals as goal

pub law_line-requires-clause-follows : goal.law_line-requires-clause-follows
law_line-requires-clause-follows c = λ s e. named-statement c.args.arena.now c.args.grounds.now (statements_of c.args.arena.now c.args.done.now) (step_of c.args.arena.now c.args.line.now) s c.requires.theory c.requires.fine c.requires.marked (search rules)

pub lemma_line-requires-clause-follows : goal.lemma_line-requires-clause-follows
lemma_line-requires-clause-follows c = λ s e. named-statement c.args.arena.now c.args.grounds.now (statements_of c.args.arena.now c.args.done.now) (step_of c.args.arena.now c.args.line.now) s c.requires.theory c.requires.fine c.requires.marked (search rules)
