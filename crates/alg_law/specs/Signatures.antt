-- The sorts of a declared function.
use Rattle.std.specs.Prelude.{◌≡◌, List, Option, Some, None}
use Rattle.alg_terms.specs.declared.sorts.Sort.{Sort}
use Rattle.alg_law.specs.declared.base.Signature.{Signature}

-- the sorts of the function, or none
abbrev pub IsSignature : Option Signature → Option (List Sort × Sort) → Type 0
IsSignature None o = o ≡ None
IsSignature (Some f) o = o ≡ Some (f.args.now, f.result)
