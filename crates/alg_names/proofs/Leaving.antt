-- What was entered is taken out of force again.
use Rattle.std.proofs.Common.{◌≡◌, ap, ◌∙◌, List}
use Rattle.alg_law.specs.Declarations.{Declaration}
use Rattle.alg_names.specs.declared.scope.Checkpoint.{Checkpoint}
use Rattle.alg_names.specs.declared.scope.Scope.{Scope}
use Rattle.alg_names.specs.Entering.{entered, checkpoint_of, cut_to}
use Rattle.alg_names.proofs.EnteringLemmas.{cut_to-entered}

pub left : (s old new : Scope) (m : Checkpoint) (ds : List Declaration) → new ≡ cut_to old m → m ≡ checkpoint_of s → old ≡ entered s ds → new ≡ s
left s old new m ds e p q = e ∙ (ap (cut_to old) p ∙ (ap (λ t. cut_to t (checkpoint_of s)) q ∙ cut_to-entered s ds))
