use Rattle.std.specs.Prelude.{[], map, refl}
use Rattle.std.proofs.Common.{◌∙◌}
use Rattle.alg_law.specs.LawRows.{row_of}
use Rattle.alg_law.proofs.LawIndexLemmas.{start, group_more}
use Rattle.alg_law.proofs.law_index.LawIndex.new.Goals as goal

pub loop-group-init : goal.loop-group-init
loop-group-init c = start c.new-table.result (map (λ g. map row_of g.now) c.laws-groups.result) c.new-table.ensures.empty c.laws-groups.ensures.table

pub loop-group-preserved : goal.loop-group-preserved
loop-group-preserved c n =
    group_more (λ g. map row_of g.now) (record { ref_ptr = (0, 0); now = [] }) refl c.loop-group.table c.add_group.new.table c.laws-groups.result c.loop-group.group-index c.in_ok-add_group.ensures n
    ∙ c.loop-group.invariant n
