-- The number of nodes of a tree written out, up to 2^64 - 1.
use Rattle.std.specs.Prelude.{ℕ, ◌-◌, ◌^◌, min}
use Rattle.alg_terms.specs.Tree.{Tree, Trees, node_count, node_counts}

-- a number, or the greatest u64 where it is greater
abbrev pub saturated : ℕ → ℕ
saturated n = min n (2 ^ 64 - 1)

-- the size of a tree
abbrev pub size_of : Tree → ℕ
size_of t = saturated (node_count t)

-- the sizes of a list of trees together
abbrev pub sizes_of : Trees → ℕ
sizes_of ts = saturated (node_counts ts)
