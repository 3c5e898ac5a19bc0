use Rattle.alg_build.proofs.Growing.{sound-new}
use Rattle.alg_build.proofs.builder.Builder.new.Goals as goal

pub invariant_of-result : goal.invariant_of-result
invariant_of-result c =
    rw (c.new-2.ensures.items, c.new-3.ensures.items, c.new-4.ensures.empty)
    (sound-new _ _ _ c.len-declarations.ensures.well_formed c.len-declarations.ensures.lawful (rw c.deref.ensures at c.len-rows.ensures.admissible))
