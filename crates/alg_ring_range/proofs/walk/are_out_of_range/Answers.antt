use Rattle.std.proofs.Common.{◌∙◌}
use Rattle.alg_expansions.specs.Setting.{setting_of}
use Rattle.alg_ring_range.proofs.Agreement.{lost_is_out, all_found}
use Rattle.alg_ring_range.proofs.walk.are_out_of_range.Goals as goal

pub returns : goal.returns
returns c =
    c.any_lost-lost.ensures
    ∙ lost_is_out (setting_of c.args.base.now) c.args.arena.now c.as_slice-2.result.now c.args.roots.now
    (all_found (setting_of c.args.base.now) c.args.arena.now c.as_slice.result.now c.in_ok-wanted.wanted.items c.as_slice-2.result.now c.in_ok-found.found.items c.args.roots.now c.as_slice.ensures.value c.as_slice-2.ensures.value c.in_ok-found.ensures.found c.in_ok-found.ensures.all c.requires c.in_ok-wanted.ensures.roots)
