-- The bytes of a name as it is kept.
use Rattle.std.specs.Prelude.{ℕ, List}
use Rattle.alg_proof.specs.declared.row_names.KeptName.{KeptName}
use Rattle.alg_proof.specs.declared.row_names.KeptName.TheVariants as kept

abbrev pub kept_bytes : KeptName → List ℕ
kept_bytes (kept.Known n) = n.now
kept_bytes (kept.Copied t) = t
