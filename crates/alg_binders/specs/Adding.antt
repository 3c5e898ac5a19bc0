-- What binders without a fault add.
use Rattle.std.specs.Prelude.{◌≡◌, List, [], ◌++◌}
use Rattle.alg_law.specs.Declarations.{Declaration}
use Rattle.alg_names.specs.declared.scope.Scope.{Scope}
use Rattle.alg_names.specs.Entering.{entered}
use Rattle.alg_elaborate.specs.declared.causes.Cause.{Cause}

-- no fault, these declarations entered, and told behind those before
pub record Adds (faults : List Cause) (ds : List Declaration) (before after : Scope) (old new : List Declaration) : Type 0 where
  pub faultless : faults ≡ []
  pub entered : after ≡ entered before ds
  pub told : new ≡ old ++ ds
