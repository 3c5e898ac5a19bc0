-- The procedures by name.
use Rattle.std.specs.Prelude.{ℕ, List, [], ◌∷◌, codes, Option, Some, None}
use Rattle.alg_names.specs.Found.{found}
use Rattle.alg_binders.specs.declared.procedures.Procedure.{Procedure}
use Rattle.alg_binders.specs.declared.procedures.Procedure.TheVariants.{NormNum, Ring, Ring1, RingNf, Abel, Abel1, AbelNf, Group, Positivity, FieldSimp}

-- each name with its procedure, or with none where that isn't built yet
abbrev pub procedures : List (List ℕ × Option Procedure)
procedures =
    (codes "norm_num", Some NormNum) ∷ (codes "ring", Some Ring) ∷ (codes "ring1", Some Ring1) ∷ (codes "ring_nf", Some RingNf) ∷ (codes "abel", Some Abel) ∷ (codes "abel1", Some Abel1)
    ∷ (codes "abel_nf", Some AbelNf) ∷ (codes "group", Some Group) ∷ (codes "positivity", Some Positivity) ∷ (codes "field_simp", Some FieldSimp)
    ∷ (codes "noncomm_ring", None) ∷ (codes "ring_exp", None) ∷ (codes "group_exp", None) ∷ []

abbrev pub built : Option (Option Procedure) → Option Procedure
built None = None
built (Some o) = o

-- the procedure with this name; none where there is none, or it isn't built yet
abbrev pub procedure_named : List ℕ → Option Procedure
procedure_named x = built (found procedures x)
