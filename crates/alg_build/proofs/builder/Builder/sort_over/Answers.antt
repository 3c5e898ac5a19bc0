use Rattle.alg_build.proofs.CongruenceLemmas.{no_sort, only_sort}
use Rattle.alg_build.proofs.builder.Builder.sort_over.Goals as goal

pub unreachable-requires : goal.unreachable-requires
unreachable-requires c = no_sort _ c.args.sym _ c.requires.fits (rw (c.base.ensures, c.arena.ensures) at c.in-None.ensures)

pub returns : goal.returns
returns c = only_sort _ c.args.sym _ c.in-Some.sort (rw (c.base.ensures, c.arena.ensures) at c.in-Some.ensures)
