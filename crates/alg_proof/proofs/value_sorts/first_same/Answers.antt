use Rattle.std.proofs.Common.{rules, arith, sym, ◌∙◌, add-one, ap, drop, drop_of_length-le}
use Rattle.alg_terms.specs.declared.symbols.Place.TheVariants.{Same}
use Rattle.alg_expr.specs.Applying.{sorts_at}
use Rattle.alg_proof.specs.Steps.{same_sort}
use Rattle.alg_proof.proofs.PlaceLemmas.{same-next, no-arguments}
use Rattle.alg_proof.proofs.value_sorts.first_same.Goals as goal

pub returns-then-i-args : goal.returns-then-i-args
returns-then-i-args c =
    sym (no-arguments (drop c.loop-i.i c.args.places.now))
    ∙ ap (λ es. same_sort (drop c.loop-i.i c.args.places.now) (sorts_at c.args.arena.now es)) (sym (drop_of_length-le c.args.args.now (omega arith)))
    ∙ c.loop-i.invariant.same

pub loop-i-preserved : goal.loop-i-preserved
loop-i-preserved c =
    record {
      within = omega arith;
      same =
          rw add-one
          (sym (same-next c.args.arena.now c.args.places.now c.args.args.now c.loop-i.i Same (record { index = 0 }) c.loop-i-test.true (omega arith) (search rules))
          ∙ c.loop-i.invariant.same);
    }
