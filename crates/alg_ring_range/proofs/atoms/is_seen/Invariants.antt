use Rattle.std.proofs.Common.{◌≡◌, drop}
use Rattle.alg_expansions.specs.Visited.{is_listed}
use Rattle.alg_ring_range.specs.Atoms.{tree_of_atom, atom_trees}
use Rattle.alg_ring_range.proofs.atoms.is_seen.Given as goal

abbrev pub invariant-loop-x : goal.invariant-loop-x
invariant-loop-x l = is_listed (tree_of_atom l.arena l.a) (atom_trees l.arena l.seen) ≡ is_listed (tree_of_atom l.arena l.a) (atom_trees l.arena (drop l.x-index l.seen))
