use Rattle.std.proofs.Common.{sym, ap₂, ◌∙◌}
use Rattle.alg_expr.specs.Ids.{statement_of, trees_at}
use Rattle.alg_expr.proofs.ArenaLaws.{statement_of-extends}
use Rattle.alg_law.specs.LawRows.{pattern_of}
use Rattle.alg_law.specs.Patterns.{fill_statement}
use Rattle.alg_proof.specs.Causes.{statement_same}
use Rattle.alg_kernel.proofs.InstanceLemmas.{not-same}
use Rattle.alg_kernel.proofs.instances.is_premise.Goals as goal

pub same_statement-requires-clause-right : goal.same_statement-requires-clause-right
same_statement-requires-clause-right c = (rw c.in-Some.is at c.in_ok-s.ensures.filled c.args.base.now).0

pub returns-in-Some-clause-test : goal.returns-in-Some-clause-test
returns-in-Some-clause-test c =
    c.same_statement.ensures
    ∙ ap₂ statement_same (statement_of-extends c.args.arena.now c.fill.new.arena c.args.line.now c.fill.ensures.keeps c.requires.line_in) (rw c.in-Some.is at c.in_ok-s.ensures.filled c.args.base.now).1

pub returns-in-None-clause-test : goal.returns-in-None-clause-test
returns-in-None-clause-test c =
    sym (not-same c.args.base.now (statement_of c.args.arena.now c.args.line.now) (fill_statement c.args.letters.now c.args.sort (trees_at c.args.arena.now c.args.with.now) (pattern_of c.args.pattern.now)) c.requires.sorted (rw c.in-None.is at c.in_ok-s.ensures.filled c.args.base.now))
