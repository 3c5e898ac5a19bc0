use Rattle.std.proofs.Common.{subst, All, []}
use Rattle.alg_terms.specs.Tree.{Cons, Nil}
use Rattle.alg_expr.specs.Ids.{IsIn, trees_at}
use Rattle.alg_proof.specs.Steps.{Bridge}
use Rattle.alg_certificate_lines.specs.Steps.{over_one, trees_read, GivesTrees, GivesLine}
use Rattle.alg_certificate_lines.proofs.CutLaws.{tree_line, tree_fault, alone}
use Rattle.alg_certificate_lines.proofs.one_tree.read_bridged.Goals as goal

pub returns-in-Ok-clause-gives : goal.returns-in-Ok-clause-gives
returns-in-Ok-clause-gives c = λ t f e.
    tree_line c.read_good.new.arena (λ u. Bridge c.args.kind c.args.number u) (trees_read c.args.base.now (Cons t Nil)) _ c.bridge_over.result
    (subst (GivesTrees c.read_good.new.arena (trees_read c.args.base.now (Cons t Nil))) c.in-Ok.is (c.read_good.ensures.gives (Cons t Nil) [] (f, tt) tt (alone t c.args.text.now e)))
    (subst (λ es. All (IsIn c.read_good.new.arena) es → GivesLine c.read_good.new.arena (over_one (λ u. Bridge c.args.kind c.args.number u) (trees_at c.read_good.new.arena es)) c.bridge_over.result) c.as_slice.ensures (c.bridge_over.ensures.gives c.read_good.new.arena))

pub returns-in-Err-clause-gives : goal.returns-in-Err-clause-gives
returns-in-Err-clause-gives c = λ t f e.
    tree_fault c.read_good.new.arena (λ u. Bridge c.args.kind c.args.number u) (trees_read c.args.base.now (Cons t Nil)) c.in-Err.fault
    (subst (GivesTrees c.read_good.new.arena (trees_read c.args.base.now (Cons t Nil))) c.in-Err.is (c.read_good.ensures.gives (Cons t Nil) [] (f, tt) tt (alone t c.args.text.now e)))
