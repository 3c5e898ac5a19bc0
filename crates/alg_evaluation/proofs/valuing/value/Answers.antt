use Rattle.std.proofs.Common.{refl}
use Rattle.alg_expr.proofs.ArenaLaws.{IsIn-extends}
use Rattle.alg_build.proofs.Rewritings.{is-rewriting}
use Rattle.alg_evaluation.proofs.Asking.{moved, valued_at}
use Rattle.alg_evaluation.proofs.FoundFacts.{found_numeral, found_past, found_value, found_without}
use Rattle.alg_evaluation.proofs.valuing.value.Goals as goal

pub line_of-requires : goal.line_of-requires
line_of-requires g c =
    let w = rw c.as_slice.ensures.value at c.in_ok-found.ensures.found in
    let h = c.found_of-f.ensures _ (rw (← c.as_slice-2.ensures.value, ← c.as_slice-3.ensures.value) at w) in
    is-rewriting _ _ _ _ _ h.shown

pub returns-in-Num-clause-gives : goal.returns-in-Num-clause-gives
returns-in-Num-clause-gives g c =
    let w = rw c.as_slice.ensures.value at c.in_ok-found.ensures.found in
    let h = c.found_of-f.ensures _ (rw (← c.as_slice-2.ensures.value, ← c.as_slice-3.ensures.value) at w) in
    let k = c.all_found.ensures.grows in (
      moved _ _ _ k c.args.e c.requires.here _ (found_value _ _ _ _ h c.in-Num.is),
      refl,
      valued_at _ _ c.line_of.ensures.grows c.args.e _ _ (IsIn-extends _ _ c.args.e k.trees c.requires.here) (c.in_ok-line-in-Num.ensures.proves _ _ _ (found_numeral _ _ _ _ h c.in-Num.is)),
    )

pub returns-in-Past-clause-gives : goal.returns-in-Past-clause-gives
returns-in-Past-clause-gives g c =
    let w = rw c.as_slice.ensures.value at c.in_ok-found.ensures.found in
    let h = c.found_of-f.ensures _ (rw (← c.as_slice-2.ensures.value, ← c.as_slice-3.ensures.value) at w) in
    moved _ _ _ c.all_found.ensures.grows c.args.e c.requires.here _ (found_past _ _ _ _ h c.in-Past.is)

pub returns-clause-gives : goal.returns-clause-gives
returns-clause-gives g c =
    let w = rw c.as_slice.ensures.value at c.in_ok-found.ensures.found in
    let h = c.found_of-f.ensures _ (rw (← c.as_slice-2.ensures.value, ← c.as_slice-3.ensures.value) at w) in
    moved _ _ _ c.all_found.ensures.grows c.args.e c.requires.here _ (found_without _ _ _ _ h c.in-Without.is)
